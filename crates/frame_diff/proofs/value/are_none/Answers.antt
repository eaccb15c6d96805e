use Rattle.frame_diff.proofs.Inside.{rows_left}
use Rattle.frame_diff.proofs.value.are_none.Goals as goal

pub returns-else-is_empty : goal.returns-else-is_empty
returns-else-is_empty c cx =
    rows_left cx c.args.rows.now c.args.is_any c.is_empty.result c.is_empty.ensures c.if-is_empty.false
