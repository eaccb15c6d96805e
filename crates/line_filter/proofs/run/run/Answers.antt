use Rattle.std.proofs.lemmas.Result.{on_ok_weaker, IfErr-weaker}
use Rattle.line_filter.specs.Runs.{nothing}
use Rattle.line_filter.proofs.Answered.{all_answered, first_answered, stopped_due}
use Rattle.line_filter.proofs.run.run.Goals as goal

pub returns-clause-ok : goal.returns-clause-ok
returns-clause-ok g c = on_ok_weaker c.read_lines.result
    (λ s. all_answered (λ _. g.A.Answer.is_answer) nothing _ _ _ _ _ _ s) c.read_lines.ensures.ok

pub returns-clause-err : goal.returns-clause-err
returns-clause-err g c = IfErr-weaker c.read_lines.result _ _
    (λ e s. stopped_due g.A.Answer.is_answer g.met.A.Answer.has e _ _ _ _
    (first_answered (λ _. g.A.Answer.is_answer) nothing e _ _ _ _ _ s)) c.read_lines.ensures.err
