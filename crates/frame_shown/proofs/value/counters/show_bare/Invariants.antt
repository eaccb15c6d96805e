use Rattle.std.proofs.Common.{◌≡◌, ◌-◌, ◌*◌}
use Rattle.shown.specs.Drafts.{with_members}
use Rattle.frame_shown.specs.Values.{bare_shown}
use Rattle.frame_shown.proofs.value.counters.show_bare.Given as goal

abbrev pub invariant-loop-i : goal.invariant-loop-i
invariant-loop-i l = with_members (bare_shown (39 - l.i) l.bytes (8 * l.i)) l.page
    ≡ with_members (bare_shown 39 l.bytes 0) l.fn.page
