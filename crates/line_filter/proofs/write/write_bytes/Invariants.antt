use Rattle.line_filter.specs.Steps.{Sends}
use Rattle.line_filter.proofs.write.write_bytes.Given as goal

abbrev pub invariant-loop-writes : goal.invariant-loop-writes
invariant-loop-writes g l = Sends (g.W.Write.contents l.initial.writer) (g.W.Write.contents l.writer) l.bytes l.rest
