use Rattle.std.proofs.Common.{◌≡◌, drop, map}
use Rattle.shown.specs.Drafts.{with_members}
use Rattle.frame_shown.specs.Values.{placed_shown}
use Rattle.frame_shown.proofs.value.counters.show_placed.Given as goal

abbrev pub invariant-loop-row : goal.invariant-loop-row
invariant-loop-row l =
    with_members (placed_shown l.is_since (map (λ row. (row.0.now, (row.1, row.2))) (drop l.row-index l.rows))
    l.bytes) l.page
    ≡ with_members (placed_shown l.is_since (map (λ row. (row.0.now, (row.1, row.2))) l.rows) l.bytes) l.fn.page
