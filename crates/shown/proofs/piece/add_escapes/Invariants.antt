use Rattle.std.proofs.Common.{◌+◌, ◌-◌, ◌≤◌, length}
use Rattle.shown.specs.Escapes.{AddsEscaped}
use Rattle.shown.proofs.piece.add_escapes.Given as goal

abbrev pub invariant-loop-done : goal.invariant-loop-done
invariant-loop-done l =
    AddsEscaped l.fn.bytes.items l.bytes.items l.len l.at l.text 0 l.done × (l.done ≤ length l.text + 2)

abbrev pub decreases-loop-done : goal.decreases-loop-done
decreases-loop-done l = length l.text - l.done
