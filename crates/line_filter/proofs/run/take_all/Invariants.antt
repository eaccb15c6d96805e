use Rattle.std.proofs.Common.{◌≡◌, []}
use Rattle.line_filter.proofs.Running.{Reading}
use Rattle.line_filter.proofs.run.take_all.Given as goal

abbrev pub invariant-loop-reads : goal.invariant-loop-reads
invariant-loop-reads g l =
    Reading g.T.Take.takes l.initial.taker l.taker (g.R.Read.remaining l.initial.reader) (g.R.Read.remaining l.reader)
    (g.W.Write.contents l.initial.writer) (g.W.Write.contents l.writer) l.held.items l._reads
    × (l.waiting.items ≡ [])
