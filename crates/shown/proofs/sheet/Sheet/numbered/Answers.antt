use Rattle.std.proofs.Common.{[], ◌∷◌, ◌++◌, ◌∙◌, ap, decimal}
use Rattle.json.specs.Token.{key, number}
use Rattle.shown.proofs.Sheets.{numbered_added, numbered_seen}
use Rattle.shown.proofs.sheet.Sheet.numbered.Goals as goal

pub invariant_of-self-2 : goal.invariant_of-self-2
invariant_of-self-2 c = (
  c.in_ok-self-inside.ensures.within,
  numbered_added _ _ c.self.inside.after_value c.args.name.now c.args.value c.self.invariant.1 c.ranges.value.fits
      c.in_ok-self-inside.ensures.bytes,
)

pub returns : goal.returns
returns c =
    numbered_seen _ _ c.self.inside.after_value c.args.name.now c.args.value c.self.invariant.1 c.ranges.value.fits
    c.in_ok-self-inside.ensures.bytes
    ∙ ap (λ ts. (ts ++ key c.args.name.now ∷ []) ++ number (decimal c.args.value) ∷ []) c.self.view_is
