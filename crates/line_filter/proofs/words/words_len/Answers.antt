use Rattle.std.proofs.Common.{◌≡◌, true, false, drop}
use Rattle.line_filter.specs.Words.{has_word, step_len}
use Rattle.line_filter.proofs.Text.{take_rest}
use Rattle.line_filter.proofs.Front.{Passed-step, Passed-end}
use Rattle.line_filter.proofs.words.words_len.Goals as goal

pub loop-word-preserved : goal.loop-word-preserved
loop-word-preserved c =
    let is : has_word (drop c.loop-word.at c.args.line.now) ≡ true = simp take_rest at c.in-Some.ensures.none in
    let len : c.in-Some.word.len ≡ step_len (drop c.loop-word.at c.args.line.now) =
    simp take_rest at c.in-Some.ensures.len in
    rw len (Passed-step _ _ c.loop-word.invariant is)

pub returns-clause-len : goal.returns-clause-len
returns-clause-len c =
    let none : has_word (drop c.loop-word.at c.args.line.now) ≡ false = simp take_rest at c.in_default.ensures.none in
    Passed-end _ _ c.loop-word.invariant none
