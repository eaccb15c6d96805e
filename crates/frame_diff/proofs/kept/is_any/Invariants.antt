use Rattle.std.proofs.Common.{◌≡◌, drop}
use Rattle.frame_diff.specs.Keyed.{are_any}
use Rattle.frame_diff.proofs.kept.is_any.Given as goal

abbrev pub invariant-loop-one : goal.invariant-loop-one
invariant-loop-one l = are_any (drop l.one-index l.others) ≡ are_any l.others
