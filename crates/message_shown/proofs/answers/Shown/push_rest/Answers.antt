use Rattle.std.proofs.lemmas.Result.{on_ok_weaker}
use Rattle.std.proofs.Common.{◌∙◌, sym}
use Rattle.message_shown.proofs.Added.{adds_alone, adds_behind}
use Rattle.message_shown.specs.Whole.{ToLine}
use Rattle.message_shown.proofs.answers.Shown.push_rest.Goals as goal

pub returns-then-are_alone-clause-answer : goal.returns-then-are_alone-clause-answer
returns-then-are_alone-clause-answer g c =
    on_ok_weaker c.push_alone.result
    (λ s. adds_alone (ToLine g.R.Reading.is_answer c.args.self.now c.args.front.now) c.args.front.now
    c.args.rest.now _ _ (sym c.are_alone.ensures ∙ c.if-are_alone.true) s) c.push_alone.ensures

pub returns-clause-answer : goal.returns-clause-answer
returns-clause-answer g c =
    on_ok_weaker c.push_digits.result
    (λ s. adds_behind (ToLine g.R.Reading.is_answer c.args.self.now c.args.front.now) c.args.front.now
    c.args.rest.now _ _ _ (sym c.are_alone.ensures ∙ c.if-are_alone.false) c.digits_of-digits.ensures s)
    c.push_digits.ensures.answer
