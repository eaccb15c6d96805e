use Rattle.std.proofs.Common.{◌≡◌}
use Rattle.nla_wire.specs.Items.{items}
use Rattle.link_info.specs.Styles.{are_frames_of}
use Rattle.link_info.proofs.read.are_elements.Given as goal

abbrev pub invariant-loop-item : goal.invariant-loop-item
invariant-loop-item l = are_frames_of l.size l.item-iterator ≡ are_frames_of l.size (items l.bytes)
