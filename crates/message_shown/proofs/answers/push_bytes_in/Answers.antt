use Rattle.std.proofs.lemmas.Result.{on_ok_weaker}
use Rattle.message_shown.proofs.Added.{adds_begun, begins_as, tells_as}
use Rattle.message_shown.specs.Lines.{IsAnswerTo}
use Rattle.message_shown.specs.Whole.{IsWholeAnswerTo}
use Rattle.message_shown.specs.Worded.{words_shown}
use Rattle.message_shown.proofs.answers.push_bytes_in.Goals as goal

pub returns-in-Ok-clause-answer : goal.returns-in-Ok-clause-answer
returns-in-Ok-clause-answer c =
    on_ok_weaker c.push_message.result
    (λ s. adds_begun IsWholeAnswerTo IsAnswerTo begins_as c.args.cx.now (words_shown c.args.front.now) c.args.bytes.now
    _ _ s) c.push_message.ensures

pub returns-in-Ok-clause-told : goal.returns-in-Ok-clause-told
returns-in-Ok-clause-told c =
    on_ok_weaker c.push_message.result
    (λ s. tells_as c.args.cx.now (words_shown c.args.front.now) c.args.bytes.now _ _ s) c.push_message.ensures

pub returns-in-Err-clause-answer : goal.returns-in-Err-clause-answer
returns-in-Err-clause-answer c =
    on_ok_weaker c.push_fault.result
    (λ s. adds_begun IsWholeAnswerTo IsAnswerTo begins_as c.args.cx.now (words_shown c.args.front.now) c.args.bytes.now
    _ _ s) c.push_fault.ensures

pub returns-in-Err-clause-told : goal.returns-in-Err-clause-told
returns-in-Err-clause-told c =
    on_ok_weaker c.push_fault.result
    (λ s. tells_as c.args.cx.now (words_shown c.args.front.now) c.args.bytes.now _ _ s) c.push_fault.ensures
