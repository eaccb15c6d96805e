use Rattle.std.proofs.Common.{sym, ◌∙◌}
use Rattle.std.proofs.lemmas.Result.{on_ok_weaker}
use Rattle.line_filter.proofs.Front.{adds_words}
use Rattle.line_filter.proofs.worded.WordedAnswer.push.Goals as goal

pub returns : goal.returns
returns g c =
    on_ok_weaker c.push-2.result
    (λ s. adds_words g.A.Answer.is_answer c.args.line.now _ _ _ _ _ _ c.split.ensures.front c.split.ensures.rest
    c.digits_of.ensures c.in_ok-push_front.ensures (sym c.are_alone.ensures ∙ c.if-are_alone.false) s)
    c.push-2.ensures
