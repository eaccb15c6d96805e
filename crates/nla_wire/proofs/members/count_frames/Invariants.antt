use Rattle.std.proofs.Common.{◌≡◌, ◌+◌}
use Rattle.nla_wire.specs.Items.{items, frame_count}
use Rattle.nla_wire.proofs.members.count_frames.Given as goal

abbrev pub invariant-loop-item : goal.invariant-loop-item
invariant-loop-item l = l.count + frame_count l.item-iterator ≡ frame_count (items l.bytes)
