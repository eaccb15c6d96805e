use Rattle.std.proofs.Common.{◌≡◌, subst, [], ◌∷◌, OnOk}
use Rattle.std.specs.Prelude.{Some, None}
use Rattle.json.specs.Token.{Token}
use Rattle.shown.specs.Drafts.{with_value}
use Rattle.shown.proofs.Names.{number_named}
use Rattle.shown.proofs.page.Page.named.Goals as goal

pub returns-in-Some : goal.returns-in-Some
returns-in-Some c = subst
    (λ (t : Token). OnOk c.string.result (c.string.new.self ≡ with_value c.args.name.now (t ∷ []) c.args.self.now))
    (number_named c.args.names.now c.args.value (Some c.in-Some.row.now) c.in-Some.ensures) c.string.ensures

pub returns-in-None : goal.returns-in-None
returns-in-None c = subst
    (λ (t : Token). OnOk c.number.result (c.number.new.self ≡ with_value c.args.name.now (t ∷ []) c.args.self.now))
    (number_named c.args.names.now c.args.value None c.in-None.ensures) c.number.ensures
