use Rattle.line_filter.proofs.Known.{Sends-join}
use Rattle.line_filter.proofs.write.write_bytes.Goals as goal

pub loop-writes-preserved : goal.loop-writes-preserved
loop-writes-preserved g c = Sends-join _ _ _ _ _ _ c.loop-writes.invariant c.in_ok-rest.ensures.ok
