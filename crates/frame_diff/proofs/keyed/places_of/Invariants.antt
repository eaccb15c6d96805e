use Rattle.std.proofs.Common.{◌≤◌, length}
use Rattle.frame_diff.proofs.Labelled.{HasPlaces}
use Rattle.frame_diff.proofs.keyed.places_of.Given as goal

abbrev pub invariant-loop-place : goal.invariant-loop-place
invariant-loop-place g l = record {
  here : l.place ≤ length l.values;
  found : HasPlaces l.places l.values l.place;
}

abbrev pub decreases-loop-place : goal.decreases-loop-place
decreases-loop-place g l = l.place
