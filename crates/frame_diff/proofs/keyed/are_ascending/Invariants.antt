use Rattle.std.proofs.Common.{◌≡◌, None, drop}
use Rattle.frame_diff.specs.Keyed.{numbers_now}
use Rattle.frame_diff.specs.Labels.{are_ascending}
use Rattle.frame_diff.proofs.keyed.are_ascending.Given as goal

abbrev pub invariant-loop-one : goal.invariant-loop-one
invariant-loop-one g l =
    are_ascending l.before (numbers_now (drop l.one-index l.values)) ≡ are_ascending None (numbers_now l.values)
