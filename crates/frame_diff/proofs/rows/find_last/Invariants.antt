use Rattle.std.proofs.Common.{◌≡◌, None, drop}
use Rattle.frame_diff.specs.Rows.{last_value}
use Rattle.frame_diff.proofs.rows.find_last.Given as goal

abbrev pub invariant-loop-row : goal.invariant-loop-row
invariant-loop-row l =
    last_value l.name l.last (drop l.row-index l.rows) ≡ last_value l.name None l.rows
