use Rattle.std.proofs.Common.{sym, ◌∙◌}
use Rattle.json.proofs.Printed.Places.{Placed-then}
use Rattle.shown.proofs.Escapes.{byte_stored, slashed_stored}
use Rattle.shown.proofs.escape.put_next.Goals as goal

pub returns-then-is_slashed-clause-escaped : goal.returns-then-is_slashed-clause-escaped
returns-then-is_slashed-clause-escaped c =
    slashed_stored c.args.text.now c.args.from c.requires.within (sym c.is_slashed.ensures ∙ c.if-is_slashed.true)
    (Placed-then c.put_byte-second.ensures c.put_byte.ensures)

pub returns-clause-escaped : goal.returns-clause-escaped
returns-clause-escaped c =
    byte_stored c.args.text.now c.args.from c.requires.within (sym c.may_escape.ensures ∙ c.if-may_escape.false)
    c.put_byte-2.ensures
