use Rattle.std.proofs.Common.{arith, ◌<◌, length, take}
use Rattle.std.proofs.lemmas.Result.{err_from_is_err_and}
use Rattle.line_filter.proofs.Running.{Reading-init, Reading-step, Reading-ends}
use Rattle.line_filter.proofs.Stopping.{Reading-keeps, Reading-not_ended, Reading-stops, Reading-stops_in}
use Rattle.line_filter.proofs.Stopping.{Reading-stops_at_end}
use Rattle.line_filter.proofs.run.take_all.Goals as goal

pub loop-reads-init : goal.loop-reads-init
loop-reads-init g c = rw c.new-held.ensures.items (Reading-init _ _ _ _, c.new-waiting.ensures.items)

pub returns-in_default-clause-err : goal.returns-in_default-clause-err
returns-in_default-clause-err g c =
    Reading-stops _ _ _ _ _ _ _ _ _ (Reading-keeps _ _ _ _ _ _ _ _ _ _ c.loop-reads.invariant.0
    c.in_default.ensures.bytes)

pub returns-in_err-finish-clause-err : goal.returns-in_err-finish-clause-err
returns-in_err-finish-clause-err g c =
    let some : 0 < length c.read.new.buf = omega arith in
    let last = rw c.if-n-eq0.true at c.in-Ok.ensures.bytes.0 in
    let p = err_from_is_err_and c.from_residual.result c.from_residual.ensures.1 in
    rw (p.1, p.2) (Reading-stops_at_end _ _ _ _ _ _ _ _ _ _ _ _ c.loop-reads.invariant.0 last
    (c.in-Ok.ensures.bytes.1 c.if-n-eq0.true some) c.in_err-finish.ensures.err)

pub returns-then-n-eq0-clause-ok : goal.returns-then-n-eq0-clause-ok
returns-then-n-eq0-clause-ok g c =
    let some : 0 < length c.read.new.buf = omega arith in
    let last = rw c.if-n-eq0.true at c.in-Ok.ensures.bytes.0 in
    Reading-ends _ _ _ _ _ _ _ _ _ _ _ _ c.loop-reads.invariant.0 last
    (c.in-Ok.ensures.bytes.1 c.if-n-eq0.true some) c.in_ok-finish.ensures.ok

pub returns-in_err-take_piece-clause-err : goal.returns-in_err-take_piece-clause-err
returns-in_err-take_piece-clause-err g c =
    let p =
    err_from_is_err_and c.from_residual-in_err-take_piece.result c.from_residual-in_err-take_piece.ensures.1 in
    rw (p.1, p.2) (Reading-stops_in _ _ _ _ _ _ _ _ _ _ _ _ _ c.loop-reads.invariant.0 c.in-Ok.ensures.bytes.0
    c.in_err-take_piece.ensures.err)

pub loop-reads-preserved : goal.loop-reads-preserved
loop-reads-preserved g c =
    let some : 0 < length (take c.in-Ok.n c.read.new.buf) =
    omega (arith, c.in-Ok.ensures.bound.1, c.if-n-eq0.false) in (
      Reading-step _ _ _ _ _ _ _ _ _ _ _ _ _ _ c.loop-reads.invariant.0 c.in-Ok.ensures.bytes.0 some
          c.in_ok-take_piece.ensures.runs,
      c.in_ok-take_piece.ensures.none,
    )

pub returns-clause-ok : goal.returns-clause-ok
returns-clause-ok g c = Reading-not_ended _ _ _ _ _ _ _ _ _ c.loop-reads.invariant.0 c.loop-reads-test.false
