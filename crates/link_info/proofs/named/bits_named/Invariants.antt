use Rattle.std.proofs.Common.{◌≡◌, drop}
use Rattle.link_info.specs.Built.{bits_named}
use Rattle.link_info.proofs.named.bits_named.Given as goal

abbrev pub invariant-loop-flag : goal.invariant-loop-flag
invariant-loop-flag l = bits_named l.names l.bits (drop l.flag-index l.flags) ≡ bits_named l.names 0 l.flags
