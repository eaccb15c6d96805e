use Rattle.std.proofs.Common.{[], ◌∷◌, ◌++◌, ◌∙◌, ap, refl}
use Rattle.json.specs.Token.{key, string}
use Rattle.shown.proofs.Sheets.{named_added, named_seen}
use Rattle.shown.proofs.sheet.Sheet.try_named.Goals as goal

pub invariant_of-self-2 : goal.invariant_of-self-2
invariant_of-self-2 g c = (
  c.in-Some.ensures.added.within,
  named_added _ _ c.self.inside.after_value c.args.name.now (string c.args.text.now) refl c.self.invariant.1 tt
      c.in-Some.ensures.added.bytes,
)

pub returns-clause-added : goal.returns-clause-added
returns-clause-added g c =
    named_seen _ _ c.self.inside.after_value c.args.name.now (string c.args.text.now) refl c.self.invariant.1 tt
    c.in-Some.ensures.added.bytes
    ∙ ap (λ ts. (ts ++ key c.args.name.now ∷ []) ++ string c.args.text.now ∷ []) c.self.view_is
