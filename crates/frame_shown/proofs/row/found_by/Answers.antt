use Rattle.frame_shown.specs.Tables.{manner_way}
use Rattle.frame_shown.proofs.RowKeys.{key_among, keyed_by}
use Rattle.frame_shown.proofs.row.found_by.Goals as goal

pub returns-clause-key : goal.returns-clause-key
returns-clause-key c =
    keyed_by c.row_among.result.0.now (manner_way c.row_among.result.1) _ c.row_among.ensures
    (key_among c.args.list.now _ c.args.number (rw c.in-Some.is at c.requires).1)
