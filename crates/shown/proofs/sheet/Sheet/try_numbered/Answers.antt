use Rattle.std.proofs.Common.{[], ◌∷◌, ◌++◌, ◌∙◌, ap, decimal}
use Rattle.json.specs.Token.{key, number}
use Rattle.shown.proofs.Sheets.{numbered_added, numbered_seen}
use Rattle.shown.proofs.sheet.Sheet.try_numbered.Goals as goal

pub invariant_of-self-2 : goal.invariant_of-self-2
invariant_of-self-2 g c = (
  c.in-Some.ensures.added.within,
  numbered_added _ _ c.self.inside.after_value c.args.name.now c.args.value c.self.invariant.1 c.ranges.value.fits
      c.in-Some.ensures.added.bytes,
)

pub returns-clause-added : goal.returns-clause-added
returns-clause-added g c =
    numbered_seen _ _ c.self.inside.after_value c.args.name.now c.args.value c.self.invariant.1 c.ranges.value.fits
    c.in-Some.ensures.added.bytes
    ∙ ap (λ ts. (ts ++ key c.args.name.now ∷ []) ++ number (decimal c.args.value) ∷ []) c.self.view_is
