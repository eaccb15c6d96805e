use Rattle.std.proofs.Common.{◌≡◌, drop}
use Rattle.std.specs.List.{list_any}
use Rattle.frame_diff.specs.Rows.{is_under}
use Rattle.frame_diff.proofs.rows.is_any_under.Given as goal

abbrev pub invariant-loop-row : goal.invariant-loop-row
invariant-loop-row l =
    list_any (is_under l.name) (drop l.row-index l.rows) ≡ list_any (is_under l.name) l.rows
