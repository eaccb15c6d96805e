use Rattle.std.proofs.Common.{◌≡◌, length}
use Rattle.line_filter.specs.Words.{words_of, value_in}
use Rattle.line_filter.proofs.words.value_of.Given as goal

abbrev pub invariant-loop-word : goal.invariant-loop-word
invariant-loop-word l = value_in l.key (words_of l.line) ≡ value_in l.key (words_of l.rest)

abbrev pub decreases-loop-word : goal.decreases-loop-word
decreases-loop-word l = length l.rest
