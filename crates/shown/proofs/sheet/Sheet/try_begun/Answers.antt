use Rattle.std.proofs.Common.{[], ◌∷◌, ◌++◌, ◌∙◌, ap, false, subst}
use Rattle.json.specs.Token.{key}
use Rattle.shown.specs.Nesting.{opening}
use Rattle.shown.specs.Sheets.{IsText}
use Rattle.shown.proofs.Sheets.{named_added, named_seen, opens}
use Rattle.shown.proofs.sheet.Sheet.try_begun.Goals as goal

pub invariant_of-self-2 : goal.invariant_of-self-2
invariant_of-self-2 g c =
    let w = c.self.inside in
    let is = opens false c.args.nest in
    let added = rw c.opening.ensures at c.in-Some.ensures.added.bytes in (
      c.in-Some.ensures.added.within,
      subst (IsText _) is.2
          (named_added _ _ w.after_value c.args.name.now (opening c.args.nest) is.0 c.self.invariant.1 is.1 added),
    )

pub returns-clause-added : goal.returns-clause-added
returns-clause-added g c =
    let w = c.self.inside in
    let is = opens false c.args.nest in
    let added = rw c.opening.ensures at c.in-Some.ensures.added.bytes in
    named_seen _ _ w.after_value c.args.name.now (opening c.args.nest) is.0 c.self.invariant.1 is.1 added
    ∙ ap (λ ts. (ts ++ key c.args.name.now ∷ []) ++ opening c.args.nest ∷ []) c.self.view_is
