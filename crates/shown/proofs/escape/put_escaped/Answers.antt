use Rattle.std.proofs.Common.{arith}
use Rattle.shown.proofs.Escapes.{none_stored, stored_then}
use Rattle.shown.proofs.escape.put_escaped.Goals as goal

pub loop-done-init : goal.loop-done-init
loop-done-init c = (none_stored _ _ _ _, omega arith)

pub loop-done-preserved : goal.loop-done-preserved
loop-done-preserved c =
    let step = c.put_part-step.ensures in (
      stored_then c.loop-done.invariant.0 step.escaped,
      omega (arith, step.reached.1, c.loop-done-test.true),
    )

pub returns-clause-escaped : goal.returns-clause-escaped
returns-clause-escaped c = stored_then c.loop-done.invariant.0 c.put_few.ensures.escaped
