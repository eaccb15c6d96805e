use Rattle.std.proofs.Common.{[], ◌∷◌, ◌++◌, ◌∙◌, ap, subst}
use Rattle.shown.specs.Nesting.{closing}
use Rattle.shown.specs.Sheets.{IsText}
use Rattle.shown.proofs.Sheets.{closes, token_added, token_seen}
use Rattle.shown.proofs.sheet.Sheet.end.Goals as goal

pub invariant_of-self-2 : goal.invariant_of-self-2
invariant_of-self-2 c =
    let w = c.self.inside in
    let is = closes w.after_value c.args.nest in
    let added = rw c.closing.ensures at c.in_ok-self-inside.ensures.bytes in (
      c.in_ok-self-inside.ensures.within,
      subst (IsText _) is.2
          (token_added _ _ w.after_value (closing c.args.nest) _ is.0 c.self.invariant.1 is.1 added),
    )

pub returns : goal.returns
returns c =
    let w = c.self.inside in
    let is = closes w.after_value c.args.nest in
    let added = rw c.closing.ensures at c.in_ok-self-inside.ensures.bytes in
    token_seen _ _ w.after_value (closing c.args.nest) _ is.0 c.self.invariant.1 is.1 added
    ∙ ap (λ ts. ts ++ closing c.args.nest ∷ []) c.self.view_is
