use Rattle.std.proofs.Common.{◌+◌, ◌-◌, ◌≤◌}
use Rattle.shown.specs.Escapes.{Escaped}
use Rattle.shown.proofs.escape.put_few.Given as goal

abbrev pub invariant-loop-done : goal.invariant-loop-done
invariant-loop-done l =
    Escaped l.fn.buf l.buf l.at l.end l.text l.from l.done × (l.done ≤ l.from + (l.to + 2 - l.from))

abbrev pub decreases-loop-done : goal.decreases-loop-done
decreases-loop-done l = l.to - l.done
