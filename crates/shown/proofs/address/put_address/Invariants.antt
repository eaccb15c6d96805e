use Rattle.std.proofs.Common.{◌≡◌, ◌≤◌, ◌*◌, length, take}
use Rattle.shown.specs.Values.{hardware_address}
use Rattle.shown.proofs.address.put_address.Given as goal

abbrev pub invariant-loop-i : goal.invariant-loop-i
invariant-loop-i l =
    (take l.end l.buf ≡ hardware_address (take l.i l.bytes)) × (l.end ≤ l.i * 3) × (length l.buf ≡ length l.fn.buf)
