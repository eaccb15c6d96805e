use Rattle.std.proofs.lemmas.Result.{on_ok_weaker, IfErr-weaker}
use Rattle.linkshow.proofs.Begun.{ran, stopped}
use Rattle.linkshow.proofs.run.run.Goals as goal

pub returns-clause-ok : goal.returns-clause-ok
returns-clause-ok g c = on_ok_weaker c.read_lines.result
    (λ s. ran g.B.Reading.is_answer c.new-shown.result _ c.args.order _ _ _ _ c.new-shown.ensures s)
    c.read_lines.ensures.ok

pub returns-clause-err : goal.returns-clause-err
returns-clause-err g c = IfErr-weaker c.read_lines.result _ _
    (λ e s. stopped g.B.Reading.is_answer c.new-shown.result c.args.order e _ _ _ _ c.new-shown.ensures s)
    c.read_lines.ensures.err
