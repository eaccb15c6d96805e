use Rattle.std.proofs.Common.{sym, ◌∙◌, ap, Err, inr}
use Rattle.nla_wire.proofs.Texts.{text_refused, text_given}
use Rattle.nla_wire.proofs.text.parse_string.Goals as goal

pub returns-in-Some-clause-reads : goal.returns-in-Some-clause-reads
returns-in-Some-clause-reads c =
    text_given c.args.bytes.now c.without_nul.result.now c.in-Some.text.now c.from_str.result
    c.without_nul.ensures c.in-Some.ensures.1 c.in-Some.ensures.0 c.from_str.ensures.ok c.from_str.ensures.err

pub returns-in-None-clause-reads : goal.returns-in-None-clause-reads
returns-in-None-clause-reads c =
    inr (text_refused c.args.bytes.now c.without_nul.result.now
    c.without_nul.ensures c.in-None.ensures ∙ ap (λ e. Err e) (sym c.not_utf8.ensures))
