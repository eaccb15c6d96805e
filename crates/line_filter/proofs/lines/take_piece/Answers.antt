use Rattle.std.proofs.lemmas.Result.{on_ok_weaker, err_from_is_err_and, IfErr-weaker}
use Rattle.line_filter.proofs.Text.{take_rest}
use Rattle.line_filter.proofs.Running.{Going-init, Going-add, Going-send, Going-ends}
use Rattle.line_filter.proofs.Stopping.{Going-stops, Going-stops_here}
use Rattle.line_filter.proofs.lines.take_piece.Goals as goal

pub loop-end-init : goal.loop-end-init
loop-end-init g c = rw c.requires.none (Going-init _ _ _ _ _ c.requires.held)

pub returns-in_err-end_line-clause-err : goal.returns-in_err-end_line-clause-err
returns-in_err-end_line-clause-err g c =
    let p = err_from_is_err_and c.from_residual.result c.from_residual.ensures.1 in
    rw (p.1, p.2) (Going-stops_here _ _ _ _ _ _ _ _ _ c.loop-end.invariant)

pub returns-in_err-write_full-clause-err : goal.returns-in_err-write_full-clause-err
returns-in_err-write_full-clause-err g c =
    let added = Going-add _ _ _ _ _ _ _ _ _ _ _ _ c.loop-end.invariant c.in-Some.ensures
    c.in_ok-end_line.ensures.taken in
    let p = err_from_is_err_and c.from_residual-in_err-write_full.result c.from_residual-in_err-write_full.ensures.1 in
    rw (p.1, p.2) (Going-stops _ _ _ _ _ _ _ _ _ _ _ added c.in_err-write_full.ensures.err)

pub loop-end-preserved : goal.loop-end-preserved
loop-end-preserved g c =
    let added = Going-add _ _ _ _ _ _ _ _ _ _ _ _ c.loop-end.invariant c.in-Some.ensures
    c.in_ok-end_line.ensures.taken in
    simp (take_rest, c.in_ok-end_line.ensures.held) (Going-send _ _ _ _ _ _ _ _ _ _ _ added
    c.in_ok-write_full.ensures.ok)

pub returns-in_err-extend_from_slice-clause-err : goal.returns-in_err-extend_from_slice-clause-err
returns-in_err-extend_from_slice-clause-err g c =
    let p = err_from_is_err_and c.from_residual-in_err-extend_from_slice.result
    c.from_residual-in_err-extend_from_slice.ensures.1 in
    rw (p.1, p.2) (Going-stops_here _ _ _ _ _ _ _ _ _ c.loop-end.invariant)

pub returns-clause-runs : goal.returns-clause-runs
returns-clause-runs g c =
    rw c.in_ok-extend_from_slice.ensures.items
    (on_ok_weaker c.write_out.result
    (λ s. Going-ends _ _ _ _ _ _ _ _ _ _ c.loop-end.invariant c.in_default.ensures s) c.write_out.ensures.ok)

pub returns-clause-err : goal.returns-clause-err
returns-clause-err g c = IfErr-weaker c.write_out.result _ _
    (λ e s. Going-stops _ e _ _ _ _ _ _ _ _ _ c.loop-end.invariant s) c.write_out.ensures.err
