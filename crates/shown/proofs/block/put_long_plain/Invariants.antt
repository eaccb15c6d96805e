use Rattle.std.proofs.Common.{◌+◌, ◌-◌, ◌≤◌, length, take}
use Rattle.json.specs.Filled.{Placed}
use Rattle.shown.specs.Escapes.{PlainBetween}
use Rattle.shown.proofs.block.put_long_plain.Given as goal

abbrev pub invariant-loop-done : goal.invariant-loop-done
invariant-loop-done l =
    (l.done + 16 ≤ length l.text)
    × Placed l.fn.buf l.buf l.at (take l.done l.text) (l.at + l.done)
    × PlainBetween l.text 0 l.done

abbrev pub decreases-loop-done : goal.decreases-loop-done
decreases-loop-done l = length l.text - l.done
