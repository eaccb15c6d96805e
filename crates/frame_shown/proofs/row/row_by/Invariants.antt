use Rattle.std.proofs.Common.{◌≡◌, drop, map}
use Rattle.frame_shown.specs.Tables.{row_by}
use Rattle.frame_shown.proofs.row.row_by.Given as goal

abbrev pub invariant-loop-row : goal.invariant-loop-row
invariant-loop-row l = row_by (map (λ row. (row.0, (row.1.now, row.2))) (drop l.row-index l.rows)) l.number
    ≡ row_by (map (λ row. (row.0, (row.1.now, row.2))) l.rows) l.number
