use Rattle.std.proofs.Common.{◌≡◌, drop}
use Rattle.shown.specs.Drafts.{with_members}
use Rattle.frame_shown.specs.Values.{record_shown}
use Rattle.frame_shown.proofs.value.style.show_parts.Given as goal

abbrev pub invariant-loop-name : goal.invariant-loop-name
invariant-loop-name l = with_members (record_shown (drop l.name-index l.parts) l.rest) l.page
    ≡ with_members (record_shown l.parts l.bytes) l.fn.page
