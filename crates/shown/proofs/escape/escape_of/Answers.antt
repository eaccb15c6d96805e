use Rattle.std.proofs.Common.{rules, sym, ◌∙◌}
use Rattle.shown.proofs.Escapes.{control, plain_byte, slashed}
use Rattle.shown.proofs.escape.escape_of.Goals as goal

pub returns-in-Some-clause-value : goal.returns-in-Some-clause-value
returns-in-Some-clause-value c = (control c.args.byte c.in-Some.escape.now (search rules) (search rules)).0

pub returns-in-Some-clause-bound : goal.returns-in-Some-clause-bound
returns-in-Some-clause-bound c = (control c.args.byte c.in-Some.escape.now (search rules) (search rules)).1

pub returns-in-None-clause-value : goal.returns-in-None-clause-value
returns-in-None-clause-value c = sym (slashed c.args.byte (sym c.is_slashed.ensures ∙ c.if-is_slashed.true))

pub returns-in-None-2-clause-value : goal.returns-in-None-2-clause-value
returns-in-None-2-clause-value c =
    sym (plain_byte c.args.byte (sym c.is_slashed.ensures ∙ c.if-is_slashed.false)
    (search rules))
