use Rattle.std.proofs.Common.{◌++◌, length}
use Rattle.line_filter.proofs.Running.{Going}
use Rattle.line_filter.proofs.lines.take_piece.Given as goal

abbrev pub invariant-loop-end : goal.invariant-loop-end
invariant-loop-end g l =
    Going g.T.Take.takes l.initial.taker l.taker (g.W.Write.contents l.initial.writer) (g.W.Write.contents l.writer)
    (l.initial.held.items ++ l.piece) l.waiting.items l.held.items l.rest

abbrev pub decreases-loop-end : goal.decreases-loop-end
decreases-loop-end g l = length l.rest
