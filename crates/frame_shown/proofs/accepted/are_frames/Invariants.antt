use Rattle.std.proofs.Common.{◌≡◌}
use Rattle.nla_wire.specs.Items.{items}
use Rattle.link_info.specs.Styles.{are_frames}
use Rattle.frame_shown.proofs.accepted.are_frames.Given as goal

abbrev pub invariant-loop-item : goal.invariant-loop-item
invariant-loop-item l = are_frames l.item-iterator ≡ are_frames (items l.bytes)
