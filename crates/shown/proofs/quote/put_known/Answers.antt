use Rattle.std.proofs.Common.{not, ap, arith}
use Rattle.std.proofs.lemmas.Bool.{ne_eqb}
use Rattle.shown.proofs.Escapes.{escape_on_plain}
use Rattle.shown.proofs.Keys.{key_escape}
use Rattle.shown.proofs.Pieces.{placed_keeps, placed_on, plain_placed}
use Rattle.shown.proofs.quote.put_known.Goals as goal

pub returns-then-this-ne0-clause-placed : goal.returns-then-this-ne0-clause-placed
returns-then-this-ne0-clause-placed g c =
    plain_placed (key_escape c.args.text.now (c.requires.key (ap not (ne_eqb g.row.IS_KEY 0 c.if-this-ne0.true))))
    c.put_text.ensures.placed

pub returns-then-this-ne0-clause-kept : goal.returns-then-this-ne0-clause-kept
returns-then-this-ne0-clause-kept g c = placed_keeps (omega arith) c.put_text.ensures.placed

pub returns-clause-placed : goal.returns-clause-placed
returns-clause-placed g c =
    placed_on _ _ _ _ _ c.put_plain.result
    (escape_on_plain c.put_plain.result c.args.text.now c.put_plain.ensures.plain) c.put_plain.ensures.placed
