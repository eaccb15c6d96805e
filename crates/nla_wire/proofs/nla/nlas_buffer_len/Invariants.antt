use Rattle.std.proofs.Common.{◌≡◌, length, take}
use Rattle.nla_wire.specs.Canon.{canons}
use Rattle.nla_wire.proofs.nla.nlas_buffer_len.Given as goal

abbrev pub invariant-loop-nla : goal.invariant-loop-nla
invariant-loop-nla g l = l.len ≡ length (canons g.N.Nla.frame (take l.nla-index l.nlas))
