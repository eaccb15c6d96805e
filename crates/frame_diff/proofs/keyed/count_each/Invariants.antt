use Rattle.std.proofs.Common.{◌≡◌, ◌≤◌, ◌-◌, ℕ, length}
use Rattle.std.specs.Prelude.{Option}
use Rattle.frame_diff.specs.Keyed.{numbers_now, values_now}
use Rattle.frame_diff.specs.Labels.{count_in, labels_of}
use Rattle.frame_diff.proofs.Labelled.{GoOn}
use Rattle.frame_diff.proofs.keyed.count_each.Given as goal

abbrev pub invariant-loop-place : goal.invariant-loop-place
invariant-loop-place g l = record {
  here : l.place ≤ length l.values.items;
  few : (n : Option ℕ) → count_in l.counts n ≤ l.place;
  labels : GoOn l.counts l.values.items l.place (labels_of (numbers_now l.fn.values.items));
  values : values_now l.values.items ≡ values_now l.fn.values.items;
}

abbrev pub decreases-loop-place : goal.decreases-loop-place
decreases-loop-place g l = length l.values.items - l.place
