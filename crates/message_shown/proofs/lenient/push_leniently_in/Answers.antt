use Rattle.std.proofs.lemmas.Result.{on_ok_weaker}
use Rattle.message_shown.specs.Leniently.{IsLenientAnswerTo}
use Rattle.message_shown.specs.Whole.{IsWholeLenientAnswerTo}
use Rattle.message_shown.specs.Worded.{words_shown}
use Rattle.message_shown.proofs.Added.{adds_begun}
use Rattle.message_shown.proofs.Leniently.{added_leniently, begins_leniently, tells_leniently}
use Rattle.message_shown.proofs.lenient.push_leniently_in.Goals as goal

pub returns-in-Ok : goal.returns-in-Ok
returns-in-Ok c =
    let words = words_shown c.args.front.now in
    let whole = on_ok_weaker c.push_message.result
    (λ s. added_leniently c.args.cx.now words c.args.bytes.now _ _
    (λ nothing. absurd (nothing c.in-Ok.ensures.found.0 c.in-Ok.ensures.found.1)) s) c.push_message.ensures in
    record {
      whole = whole;
      answer = on_ok_weaker c.push_message.result
          (λ s. adds_begun IsWholeLenientAnswerTo IsLenientAnswerTo begins_leniently c.args.cx.now words
          c.args.bytes.now _ _ s) whole;
      told = on_ok_weaker c.push_message.result
          (λ s. tells_leniently c.args.cx.now words c.args.bytes.now _ _ s) whole;
    }

pub returns-in-Err : goal.returns-in-Err
returns-in-Err c =
    let words = words_shown c.args.front.now in
    record {
      whole = c.push_refused.ensures;
      answer = on_ok_weaker c.push_refused.result
          (λ s. adds_begun IsWholeLenientAnswerTo IsLenientAnswerTo begins_leniently c.args.cx.now words
          c.args.bytes.now _ _ s) c.push_refused.ensures;
      told = on_ok_weaker c.push_refused.result
          (λ s. tells_leniently c.args.cx.now words c.args.bytes.now _ _ s) c.push_refused.ensures;
    }
