use Rattle.std.proofs.Common.{sym, ◌∙◌}
use Rattle.std.proofs.lemmas.Bool.{false≢true}
use Rattle.nla_wire.proofs.Texts.{text_weighs, text_unread, text_long}
use Rattle.nla_wire.proofs.payload.measure_text.Goals as goal

pub returns-then-text-ge-MOST_VALUE_LEN : goal.returns-then-text-ge-MOST_VALUE_LEN
returns-then-text-ge-MOST_VALUE_LEN c = text_long c.args.payload.now c.without_nul-text.result.now
    c.without_nul-text.ensures c.if-text-ge-MOST_VALUE_LEN.true

pub returns-then-is_utf8 : goal.returns-then-is_utf8
returns-then-is_utf8 c =
    text_weighs c.args.payload.now c.without_nul-text.result.now c.without_nul-text.ensures
    (c.is_utf8.ensures.0 c.if-is_utf8.true) c.if-text-ge-MOST_VALUE_LEN.false

pub returns : goal.returns
returns c =
    text_unread c.args.payload.now c.without_nul-text.result.now c.without_nul-text.ensures
    (λ whole. false≢true (sym c.if-is_utf8.false ∙ c.is_utf8.ensures.1 whole))
