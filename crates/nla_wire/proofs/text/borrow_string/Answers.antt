use Rattle.std.proofs.Common.{sym, ◌∙◌, ap, Ok, Err, List, ℕ}
use Rattle.nla_wire.proofs.Texts.{text_found, text_refused}
use Rattle.nla_wire.proofs.text.borrow_string.Goals as goal

pub returns-in-Some : goal.returns-in-Some
returns-in-Some c =
    text_found c.args.bytes.now c.without_nul.result.now c.without_nul.ensures c.in-Some.ensures.1
    ∙ ap (λ (s : List ℕ). Ok s) (sym c.in-Some.ensures.0)

pub returns-in-None : goal.returns-in-None
returns-in-None c =
    text_refused c.args.bytes.now c.without_nul.result.now c.without_nul.ensures c.in-None.ensures
    ∙ ap (λ e. Err e) (sym c.not_utf8.ensures)
