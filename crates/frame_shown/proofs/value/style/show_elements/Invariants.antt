use Rattle.std.proofs.Common.{◌≡◌, ◌-◌}
use Rattle.shown.specs.Drafts.{with_members}
use Rattle.frame_shown.specs.Values.{elements_shown}
use Rattle.frame_shown.proofs.value.style.show_elements.Given as goal

abbrev pub invariant-loop : goal.invariant-loop
invariant-loop l = with_members (elements_shown l.plain (l.end - l.counter) l.rest) l.page
    ≡ with_members (elements_shown l.plain l.end l.bytes) l.fn.page
