use Rattle.std.proofs.Common.{[], ◌∷◌, ◌++◌, ◌∙◌, ap, decimal}
use Rattle.json.specs.Token.{number}
use Rattle.json.proofs.Printed.Decimals.{IsNumber-decimal}
use Rattle.shown.proofs.Sheets.{due_if, token_added, token_seen}
use Rattle.shown.proofs.sheet.Sheet.try_number.Goals as goal

pub invariant_of-self-2 : goal.invariant_of-self-2
invariant_of-self-2 c = (
  c.in-Some.ensures.added.within,
  token_added _ _ c.self.inside.after_value (number (decimal c.args.value)) _ (due_if c.self.inside.after_value)
      c.self.invariant.1 (IsNumber-decimal c.args.value c.ranges.value.fits) c.in-Some.ensures.added.bytes,
)

pub returns-clause-added : goal.returns-clause-added
returns-clause-added c =
    token_seen _ _ c.self.inside.after_value (number (decimal c.args.value)) _ (due_if c.self.inside.after_value)
    c.self.invariant.1 (IsNumber-decimal c.args.value c.ranges.value.fits) c.in-Some.ensures.added.bytes
    ∙ ap (λ ts. ts ++ number (decimal c.args.value) ∷ []) c.self.view_is
