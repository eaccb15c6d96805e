use Rattle.std.proofs.lemmas.Result.{on_ok_weaker}
use Rattle.message_shown.proofs.Added.{adds_spelled, adds_nothex}
use Rattle.message_shown.specs.Whole.{ToLine}
use Rattle.message_shown.specs.Worded.{words_shown}
use Rattle.message_shown.proofs.answers.Shown.push_digits.Goals as goal

pub returns-then-not-decode-clause-answer : goal.returns-then-not-decode-clause-answer
returns-then-not-decode-clause-answer g c =
    on_ok_weaker c.push_not_hex.result
    (λ s. adds_nothex (ToLine g.R.Reading.is_answer c.args.self.now c.args.front.now)
    (words_shown c.args.front.now) _ _ _ _ c.if-not-decode.ensures.1 s)
    c.push_not_hex.ensures

pub returns-clause-answer : goal.returns-clause-answer
returns-clause-answer g c =
    on_ok_weaker c.push_message.result
    (λ s. adds_spelled (ToLine g.R.Reading.is_answer c.args.self.now c.args.front.now)
    (words_shown c.args.front.now) _ _ _ _ c.if-not-decode.ensures s)
    c.push_message.ensures.answer
