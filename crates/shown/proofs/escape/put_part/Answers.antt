use Rattle.std.proofs.Common.{arith}
use Rattle.std.proofs.lemmas.Bool.{OnTrue_at}
use Rattle.shown.proofs.Escapes.{plain_stored, seen_between_stored, stored_over}
use Rattle.shown.proofs.escape.put_part.Goals as goal

pub returns-then-put_exactly-clause-escaped : goal.returns-then-put_exactly-clause-escaped
returns-then-put_exactly-clause-escaped c =
    plain_stored c.args.text.now c.args.from 16 c.requires.within
    (OnTrue_at c.if-put_exactly.true c.put_exactly.ensures.plain) c.put_exactly.ensures.placed

pub returns-clause-escaped : goal.returns-clause-escaped
returns-clause-escaped c = stored_over (omega arith) c.put_exactly.ensures.placed c.put_few.ensures.escaped

pub returns-then-are_seen-clause-escaped : goal.returns-then-are_seen-clause-escaped
returns-then-are_seen-clause-escaped c =
    seen_between_stored c.args.text.now c.args.from 16 c.requires.within
    (OnTrue_at c.if-are_seen.true c.are_seen.ensures) c.put_exactly.ensures.placed
