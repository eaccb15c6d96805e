use Rattle.std.proofs.Common.{◌≡◌, drop}
use Rattle.std.specs.Prelude.{◌==◌}
use Rattle.std.specs.List.{list_any}
use lib.Pointwise.{pointwise}
use Rattle.message_shown.proofs.word_keys.has_row.Given as goal

abbrev pub invariant-loop-row : goal.invariant-loop-row
invariant-loop-row l = list_any (λ row. pointwise ◌==◌ row.0.now l.key) (drop l.row-index l.rows)
    ≡ list_any (λ row. pointwise ◌==◌ row.0.now l.key) l.rows
