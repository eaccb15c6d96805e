use Rattle.std.proofs.Common.{◌≡◌}
use Rattle.nla_wire.specs.Items.{items}
use Rattle.link_info.specs.Tables.{frames_in}
use Rattle.frame_shown.specs.Messages.{address_len}
use Rattle.frame_shown.proofs.message.address_len.Given as goal

abbrev pub invariant-loop-item : goal.invariant-loop-item
invariant-loop-item l = address_len (frames_in l.item-iterator) ≡ address_len (frames_in (items l.bytes))
