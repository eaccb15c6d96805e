use Rattle.std.proofs.Common.{◌∙◌, sym}
use Rattle.std.proofs.lemmas.Result.{on_ok_weaker}
use Rattle.message_shown.proofs.Added.{both_ok, takes_line}
use Rattle.message_shown.proofs.answers.ShownTake.take.Goals as goal

pub returns : goal.returns
returns g c =
    rw (sym c.self.view_is)
    (on_ok_weaker c.push_rest-done.result
    (λ both. takes_line g.R.Reading.is_answer c.self.inside.order _ c.args.line.now _ _ _ _
    c.split.ensures.front c.split.ensures.rest both.0 (c.self-2.view_is ∙ both.1))
    (both_ok _ _ c.push_rest-done.result c.push_rest-done.ensures.answer c.push_rest-done.ensures.kept))
