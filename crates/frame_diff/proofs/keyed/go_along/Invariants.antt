use Rattle.std.proofs.Common.{◌≡◌, drop}
use Rattle.frame_diff.specs.Keyed.{labels_now}
use Rattle.frame_diff.specs.Labels.{GoAlong}
use Rattle.frame_diff.proofs.keyed.go_along.Given as goal

abbrev pub invariant-loop-one : goal.invariant-loop-one
invariant-loop-one g l = record {
  here : l.place ≡ l.one-index;
  along : GoAlong (labels_now (drop l.one-index l.own)) (labels_now (drop l.one-index l.others))
      → GoAlong (labels_now l.own) (labels_now l.others);
}
