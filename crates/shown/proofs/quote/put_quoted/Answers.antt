use Rattle.std.proofs.Common.{◌∙◌, arith}
use Rattle.std.proofs.lemmas.Bool.{OnTrue_at}
use Rattle.json.proofs.Printed.Places.{Placed-then}
use Rattle.shown.proofs.Pieces.{kept_before, placed_keeps, quoted_placed}
use Rattle.shown.proofs.quote.put_quoted.Goals as goal

pub returns-then-not-put_known-clause-kept : goal.returns-then-not-put_known-clause-kept
returns-then-not-put_known-clause-kept g c =
    kept_before _ _ _ _ (omega (arith, c.put_quote-start.ensures.moved)) c.put_known.ensures.kept
    ∙ placed_keeps (omega arith) c.put_quote-start.ensures

pub returns-clause-placed : goal.returns-clause-placed
returns-clause-placed g c =
    quoted_placed c.args.comma c.args.text.now c.put_quote-start.ensures
    (OnTrue_at c.if-not-put_known.false c.put_known.ensures.placed) c.put_byte.ensures

pub returns-clause-kept : goal.returns-clause-kept
returns-clause-kept g c =
    placed_keeps (omega arith)
    (Placed-then c.put_quote-start.ensures
    (Placed-then (OnTrue_at c.if-not-put_known.false c.put_known.ensures.placed) c.put_byte.ensures))
