use Rattle.std.proofs.Common.{arith}
use Rattle.std.proofs.lemmas.Bool.{OnTrue_at}
use Rattle.shown.proofs.Escapes.{part_stored}
use Rattle.shown.proofs.escape.put_between.Goals as goal

pub returns-then-put_plain-clause-escaped : goal.returns-then-put_plain-clause-escaped
returns-then-put_plain-clause-escaped c =
    part_stored c.args.text.now c.args.from c.args.to (omega arith) c.requires.within.0
    (OnTrue_at c.if-put_plain.true c.put_plain.ensures.plain)
    (OnTrue_at c.if-put_plain.true c.put_plain.ensures.placed)
