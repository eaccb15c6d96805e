use Rattle.std.proofs.Common.{◌≡◌, ◌++◌, drop, map}
use Rattle.frame_shown.specs.Values.{placed_shown}
use Rattle.frame_shown.specs.declared.form.Around.{Around}
use Rattle.frame_diff.specs.Rows.{row_shown}
use Rattle.frame_diff.proofs.fields.placed_rows.Given as goal

abbrev pub invariant-loop-row : goal.invariant-loop-row
invariant-loop-row l = (cx : Around) → map (row_shown cx) l.rows.items
    ++ placed_shown l.is_since (map (λ row. (row.0.now, (row.1, row.2))) (drop l.row-index l.names)) l.bytes
    ≡ placed_shown l.is_since (map (λ row. (row.0.now, (row.1, row.2))) l.names) l.bytes
