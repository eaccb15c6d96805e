use Rattle.std.proofs.Common.{◌+◌, ◌-◌, vec_len}
use Rattle.shown.specs.Sheets.{Keeps}
use Rattle.shown.proofs.piece.grow.Given as goal

abbrev pub invariant-loop-bytes : goal.invariant-loop-bytes
invariant-loop-bytes l = Keeps l.fn.bytes.items l.bytes.items l.len

abbrev pub decreases-loop-bytes : goal.decreases-loop-bytes
decreases-loop-bytes l = (l.len + l.more) - vec_len l.bytes
