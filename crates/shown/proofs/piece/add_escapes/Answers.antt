use Rattle.std.proofs.Common.{arith}
use Rattle.std.proofs.lemmas.Result.{err_from_is_err_and}
use Rattle.shown.proofs.Escapes.{added_then, all_added, none_added}
use Rattle.shown.proofs.Pieces.{kept_behind}
use Rattle.shown.proofs.piece.add_escapes.Goals as goal

pub loop-done-init : goal.loop-done-init
loop-done-init c = (none_added _ _ _ _ c.requires.within, omega arith)

pub returns-in_err-step : goal.returns-in_err-step
returns-in_err-step c =
    let p = err_from_is_err_and c.from_residual.result c.from_residual.ensures.1 in
    rw p.1 (kept_behind _ c.requires.within c.loop-done.invariant.0.adds c.in_err-step.ensures)

pub loop-done-preserved : goal.loop-done-preserved
loop-done-preserved c = (
  added_then c.loop-done.invariant.0 c.in_ok-step.ensures.0,
  omega (arith, c.in_ok-step.ensures.2, c.loop-done-test.true),
)

pub returns-in_err-last : goal.returns-in_err-last
returns-in_err-last c =
    let p = err_from_is_err_and c.from_residual-in_err-last.result c.from_residual-in_err-last.ensures.1 in
    rw p.1 (kept_behind _ c.requires.within c.loop-done.invariant.0.adds c.in_err-last.ensures)

pub returns : goal.returns
returns c = all_added _ c.in_ok-last.ensures.1 (added_then c.loop-done.invariant.0 c.in_ok-last.ensures.0)
