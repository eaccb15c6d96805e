use Rattle.std.proofs.Common.{◌≡◌, ◌++◌}
use Rattle.frame_diff.specs.Groups.{group_at, numbers_at}
use Rattle.frame_diff.specs.Keyed.{AreIn, helds_now, labels_now}
use Rattle.frame_diff.specs.Labels.{first_labels}
use Rattle.frame_diff.specs.Walked.{Holding, Showing}
use Rattle.frame_diff.proofs.Labelled.{numbers_left, values_left}
use Rattle.frame_diff.proofs.keyed.first_values.Given as goal

abbrev pub invariant-loop-item : goal.invariant-loop-item
invariant-loop-item l = record {
  of : AreIn l.list l.values.items;
  labels : (nest : Showing) (inner : Holding)
      → labels_now l.values.items ++ first_labels (numbers_left nest inner l.is_state l.key l.list l.item-iterator)
      ≡ first_labels (numbers_at nest inner l.is_state l.list);
  values : (nest : Showing) (inner : Holding)
      → helds_now nest inner l.is_state l.values.items
      ++ values_left nest inner l.is_state l.key l.list l.item-iterator
      ≡ group_at nest inner l.is_state l.list;
}
