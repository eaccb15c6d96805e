use Rattle.std.proofs.Common.{◌≡◌}
use Rattle.nla_wire.specs.Items.{items}
use Rattle.link_info.specs.Tables.{frames_in}
use Rattle.frame_shown.specs.Values.{first_text}
use Rattle.frame_shown.proofs.value.first_text.Given as goal

abbrev pub invariant-loop-item : goal.invariant-loop-item
invariant-loop-item l = first_text l.number (frames_in l.item-iterator) ≡ first_text l.number (frames_in (items
    l.bytes))
