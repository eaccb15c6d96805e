use Rattle.std.proofs.Common.{sym, ◌∙◌}
use Rattle.message_shown.proofs.Words.{no_words}
use Rattle.message_shown.proofs.worded.show_words.Goals as goal

pub returns-then-is_empty : goal.returns-then-is_empty
returns-then-is_empty c = no_words c.args.line.now c.args.page.now (sym c.is_empty.ensures ∙ c.if-is_empty.true)
