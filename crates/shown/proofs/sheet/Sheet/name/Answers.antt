use Rattle.std.proofs.Common.{[], ◌∷◌, ◌++◌, ◌∙◌, ap}
use Rattle.json.specs.Token.{key}
use Rattle.shown.proofs.Sheets.{due_if, token_added, token_seen}
use Rattle.shown.proofs.sheet.Sheet.name.Goals as goal

pub invariant_of-self-2 : goal.invariant_of-self-2
invariant_of-self-2 c =
    let w = c.self.inside in
    let added = c.in_ok-self-inside.ensures.bytes in (
      c.in_ok-self-inside.ensures.within,
      token_added _ _ w.after_value (key c.args.name.now) _ (due_if w.after_value) c.self.invariant.1
          (tt) added,
    )

pub returns : goal.returns
returns c =
    let w = c.self.inside in
    let added = c.in_ok-self-inside.ensures.bytes in
    token_seen _ _ w.after_value (key c.args.name.now) _ (due_if w.after_value) c.self.invariant.1
    (tt) added
    ∙ ap (λ ts. ts ++ key c.args.name.now ∷ []) c.self.view_is
