use Rattle.std.proofs.Common.{arith, ◌<◌, length}
use Rattle.std.proofs.lemmas.Bool.Decides.{nat_tests}
use Rattle.std.proofs.lemmas.Result.{on_ok_weaker, err_from_is_err_and, IfErr-weaker}
use Rattle.line_filter.proofs.Running.{Runs-last}
use Rattle.line_filter.proofs.Stopping.{last-none, last-short}
use Rattle.line_filter.proofs.run.finish.Goals as goal

pub returns-in_err-end_line-clause-err : goal.returns-in_err-end_line-clause-err
returns-in_err-end_line-clause-err g c =
    let p = err_from_is_err_and c.from_residual.result c.from_residual.ensures.1 in
    rw (p.1, p.2) (last-none _ _ _ c.args.held.now.items)

pub returns-clause-ok : goal.returns-clause-ok
returns-clause-ok g c =
    let some : 0 < length c.args.held.now.items = grind (arith, nat_tests) in
    let added = rw c.requires.none at c.in_ok-end_line.ensures.taken in
    on_ok_weaker c.write_out.result
    (λ s. (_, s, Runs-last _ _ _ _ _ some c.requires.held added)) c.write_out.ensures.ok

pub returns-clause-err : goal.returns-clause-err
returns-clause-err g c =
    let some : 0 < length c.args.held.now.items = grind (arith, nat_tests) in
    let added = rw c.requires.none at c.in_ok-end_line.ensures.taken in
    IfErr-weaker c.write_out.result _ _
    (λ e s. last-short _ e _ _ _ _ c.args.held.now.items _ (Runs-last _ _ _ _ _ some c.requires.held added) s)
    c.write_out.ensures.err
