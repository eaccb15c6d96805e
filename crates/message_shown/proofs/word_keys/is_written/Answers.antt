use Rattle.message_shown.proofs.WordKeys.{own_found, rows_found}
use Rattle.message_shown.proofs.word_keys.is_written.Goals as goal

pub returns-then-has_name : goal.returns-then-has_name
returns-then-has_name c = own_found c.args.key.now c.has_name.result c.has_name.ensures c.if-has_name.true

pub returns-else-has_name : goal.returns-else-has_name
returns-else-has_name c =
    rows_found c.args.key.now c.has_name.result c.has_row.result c.has_name.ensures c.if-has_name.false
    c.has_row.ensures
