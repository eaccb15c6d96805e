use Rattle.std.proofs.Common.{sym, ◌∙◌}
use Rattle.message_shown.proofs.WordKeys.{begins_otherwise, on_false, too_long}
use Rattle.message_shown.proofs.word_keys.may_be_written.Goals as goal

pub returns-then-key-lt27 : goal.returns-then-key-lt27
returns-then-key-lt27 c =
    on_false c.has_byte.result _ (λ none. begins_otherwise c.args.key.now (sym c.is_empty.ensures ∙ c.if-is_empty.false)
    c.firsts_of.result.now c.firsts_of.ensures (sym c.has_byte.ensures ∙ none))

pub returns-else-key-lt27 : goal.returns-else-key-lt27
returns-else-key-lt27 c = on_false _ _ (λ _. too_long c.args.key.now c.if-key-lt27.false)
