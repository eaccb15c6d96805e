use Rattle.std.proofs.Common.{◌≡◌}
use Rattle.nla_wire.specs.Items.{items}
use Rattle.link_info.specs.Tables.{frames_in}
use Rattle.frame_diff.specs.Arrays.{has_values}
use Rattle.frame_diff.proofs.arrays.has_values.Given as goal

abbrev pub invariant-loop-item : goal.invariant-loop-item
invariant-loop-item l = has_values l.list.around.now l.list.list (frames_in l.item-iterator) l.number
    ≡ has_values l.list.around.now l.list.list (frames_in (items l.list.bytes.now)) l.number
