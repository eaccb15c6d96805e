use Rattle.std.proofs.Common.{[], ◌∷◌, ◌++◌, ◌∙◌, ap}
use Rattle.json.specs.Token.{string}
use Rattle.shown.proofs.Sheets.{due_if, token_added, token_seen}
use Rattle.shown.proofs.sheet.Sheet.try_string.Goals as goal

pub invariant_of-self-2 : goal.invariant_of-self-2
invariant_of-self-2 c = (
  c.in-Some.ensures.added.within,
  token_added _ _ c.self.inside.after_value (string c.args.text.now) _ (due_if c.self.inside.after_value)
      c.self.invariant.1 tt c.in-Some.ensures.added.bytes,
)

pub returns-clause-added : goal.returns-clause-added
returns-clause-added c =
    token_seen _ _ c.self.inside.after_value (string c.args.text.now) _ (due_if c.self.inside.after_value)
    c.self.invariant.1 tt c.in-Some.ensures.added.bytes
    ∙ ap (λ ts. ts ++ string c.args.text.now ∷ []) c.self.view_is
