use Rattle.std.proofs.Common.{arith}
use Rattle.shown.proofs.Escapes.{none_stored, stored_then}
use Rattle.shown.proofs.escape.put_few.Goals as goal

pub loop-done-init : goal.loop-done-init
loop-done-init c = (none_stored _ _ _ _, omega arith)

pub loop-done-preserved : goal.loop-done-preserved
loop-done-preserved c =
    let step = c.put_next-step.ensures in (
      stored_then c.loop-done.invariant.0 step.escaped,
      omega (arith, step.onwards.0, step.onwards.1, c.loop-done.invariant.1, c.loop-done-test.true),
    )
