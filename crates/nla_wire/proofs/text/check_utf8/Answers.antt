use Rattle.std.proofs.Common.{rules, sym, ◌∙◌, ap, Err}
use Rattle.std.proofs.lemmas.Bool.{false≢true}
use Rattle.nla_wire.proofs.Texts.{text_found, text_refused}
use Rattle.nla_wire.proofs.text.check_utf8.Goals as goal

pub returns-then-is_utf8 : goal.returns-then-is_utf8
returns-then-is_utf8 c =
    let found = text_found c.args.bytes.now c.without_nul.result.now c.without_nul.ensures
    (c.is_utf8.ensures.0 c.if-is_utf8.true) in
    rw found search rules

pub returns : goal.returns
returns c =
    text_refused c.args.bytes.now c.without_nul.result.now c.without_nul.ensures
    (λ whole. false≢true (sym c.if-is_utf8.false ∙ c.is_utf8.ensures.1 whole))
    ∙ ap (λ e. Err e) (sym c.not_utf8.ensures)
