use Rattle.std.proofs.Common.{◌≡◌, drop}
use Rattle.frame_diff.specs.Rows.{have_same_names}
use Rattle.frame_diff.proofs.rows.have_same_names.Given as goal

abbrev pub invariant-loop-row : goal.invariant-loop-row
invariant-loop-row l = have_same_names (drop l.row-index l.own) l.there ≡ have_same_names l.own l.others
