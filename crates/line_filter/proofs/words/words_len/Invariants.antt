use Rattle.std.proofs.Common.{◌-◌, length}
use Rattle.line_filter.proofs.Front.{Passed}
use Rattle.line_filter.proofs.words.words_len.Given as goal

abbrev pub invariant-loop-word : goal.invariant-loop-word
invariant-loop-word l = Passed l.line l.at

abbrev pub decreases-loop-word : goal.decreases-loop-word
decreases-loop-word l = length l.line - l.at
