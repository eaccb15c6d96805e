use Rattle.frame_shown.proofs.RowKeys.{keyed_by, message_key, refused_key, table_key}
use Rattle.frame_shown.specs.Tables.{manner_way}
use Rattle.frame_shown.proofs.row.found_in.Goals as goal

pub returns-in-Message-clause-key : goal.returns-in-Message-clause-key
returns-in-Message-clause-key c =
    keyed_by c.message_row.result.0.now (manner_way c.message_row.result.1) _ c.message_row.ensures
    (message_key c.in-Message.family c.args.number)

pub returns-in-Own-clause-key : goal.returns-in-Own-clause-key
returns-in-Own-clause-key c =
    keyed_by c.table_row.result.0.now (manner_way c.table_row.result.1) _ c.table_row.ensures
    (table_key c.in-Own.table c.args.number)

pub returns-in-Refused-clause-key : goal.returns-in-Refused-clause-key
returns-in-Refused-clause-key c =
    keyed_by c.refused_row.result.0.now (manner_way c.refused_row.result.1) _ c.refused_row.ensures
    (refused_key c.args.number)
