use Rattle.std.proofs.lemmas.Result.{on_ok_weaker, IfErr-weaker}
use Rattle.message_diff.proofs.run.watch_lines.Goals as goal

pub returns-clause-ok : goal.returns-clause-ok
returns-clause-ok g c =
    on_ok_weaker c.read_lines.result
    (λ runs. (c.new-watch.result, c.read_lines.new.taker, c.new-watch.ensures, runs)) c.read_lines.ensures.ok

pub returns-clause-err : goal.returns-clause-err
returns-clause-err g c =
    IfErr-weaker c.read_lines.result _ _ (λ e stops. (c.new-watch.result, c.new-watch.ensures, stops))
    c.read_lines.ensures.err
