use Rattle.std.proofs.Common.{◌≡◌}
use Rattle.nla_wire.specs.Items.{items}
use Rattle.link_info.specs.Tables.{frames_in}
use Rattle.frame_diff.specs.Groups.{group_at, picked_values}
use Rattle.frame_diff.specs.Walked.{Holding, Showing, reading_at}
use Rattle.frame_diff.proofs.picked.take.Given as goal

abbrev pub invariant-loop-item : goal.invariant-loop-item
invariant-loop-item l = record {
  behind : items l.rest ≡ l.item-iterator;
  same : (nest : Showing) (inner : Holding)
      → picked_values (reading_at nest inner l.is_state l.list.around.now) l.list.number
      l.list.list (frames_in l.item-iterator)
      ≡ group_at nest inner l.is_state l.list;
}
