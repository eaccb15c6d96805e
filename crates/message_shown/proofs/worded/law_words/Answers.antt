use Rattle.message_shown.proofs.Words.{each_word, words_apart}
use Rattle.message_shown.proofs.worded.law_words.Goals as goal

pub returns : goal.returns
returns c = record { apart = words_apart; each = each_word }
