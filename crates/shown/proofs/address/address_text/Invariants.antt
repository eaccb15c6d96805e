use Rattle.std.proofs.Common.{◌≡◌, take, string_bytes}
use Rattle.shown.specs.Values.{hardware_address}
use Rattle.shown.proofs.address.address_text.Given as goal

abbrev pub invariant-loop-i : goal.invariant-loop-i
invariant-loop-i l = string_bytes l.text ≡ hardware_address (take l.i l.bytes)
