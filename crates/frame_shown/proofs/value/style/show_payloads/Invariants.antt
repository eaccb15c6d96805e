use Rattle.std.proofs.Common.{◌≡◌}
use Rattle.nla_wire.specs.Items.{items}
use Rattle.shown.specs.Drafts.{with_members}
use Rattle.frame_shown.specs.Values.{payloads_shown}
use Rattle.frame_shown.proofs.value.style.show_payloads.Given as goal

abbrev pub invariant-loop-item : goal.invariant-loop-item
invariant-loop-item l = with_members (payloads_shown l.plain l.item-iterator) l.page
    ≡ with_members (payloads_shown l.plain (items l.bytes)) l.fn.page
