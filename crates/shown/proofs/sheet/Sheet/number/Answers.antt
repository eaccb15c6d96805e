use Rattle.std.proofs.Common.{[], ◌∷◌, ◌++◌, ◌∙◌, ap, decimal}
use Rattle.json.specs.Token.{number}
use Rattle.json.proofs.Printed.Decimals.{IsNumber-decimal}
use Rattle.shown.proofs.Sheets.{due_if, token_added, token_seen}
use Rattle.shown.proofs.sheet.Sheet.number.Goals as goal

pub invariant_of-self-2 : goal.invariant_of-self-2
invariant_of-self-2 c =
    let w = c.self.inside in
    let added = c.in_ok-self-inside.ensures.bytes in (
      c.in_ok-self-inside.ensures.within,
      token_added _ _ w.after_value (number (decimal c.args.value)) _ (due_if w.after_value) c.self.invariant.1
          (IsNumber-decimal c.args.value c.ranges.value.fits) added,
    )

pub returns : goal.returns
returns c =
    let w = c.self.inside in
    let added = c.in_ok-self-inside.ensures.bytes in
    token_seen _ _ w.after_value (number (decimal c.args.value)) _ (due_if w.after_value) c.self.invariant.1
    (IsNumber-decimal c.args.value c.ranges.value.fits) added
    ∙ ap (λ ts. ts ++ number (decimal c.args.value) ∷ []) c.self.view_is
