use Rattle.std.proofs.Common.{[], ◌∷◌, ◌++◌, ◌∙◌, ap, rules, w64}
use Rattle.std.proofs.lemmas.Int.{to_z-of_z}
use Rattle.std.specs.Fmt.{signed_decimal}
use Rattle.json.specs.Token.{number}
use Rattle.json.proofs.Printed.Decimals.{IsNumber-signed_decimal}
use Rattle.shown.proofs.Sheets.{due_if, token_added, token_seen}
use Rattle.shown.proofs.sheet.Sheet.signed.Goals as goal

pub invariant_of-self-2 : goal.invariant_of-self-2
invariant_of-self-2 c =
    let w = c.self.inside in
    let added = rw (c.as_bytes-text.ensures.value, c.format.ensures.text, to_z-of_z w64 c.args.value (search rules))
    at c.in_ok-self-inside.ensures.bytes in (
      c.in_ok-self-inside.ensures.within,
      token_added _ _ w.after_value (number (signed_decimal c.args.value)) _ (due_if w.after_value) c.self.invariant.1
          (IsNumber-signed_decimal c.args.value (search rules)) added,
    )

pub returns : goal.returns
returns c =
    let w = c.self.inside in
    let added = rw (c.as_bytes-text.ensures.value, c.format.ensures.text, to_z-of_z w64 c.args.value (search rules))
    at c.in_ok-self-inside.ensures.bytes in
    token_seen _ _ w.after_value (number (signed_decimal c.args.value)) _ (due_if w.after_value) c.self.invariant.1
    (IsNumber-signed_decimal c.args.value (search rules)) added
    ∙ ap (λ ts. ts ++ number (signed_decimal c.args.value) ∷ []) c.self.view_is
