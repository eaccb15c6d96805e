use Rattle.std.proofs.Common.{◌≡◌, length, take}
use Rattle.nla_wire.specs.Canon.{canons, Writes}
use Rattle.nla_wire.proofs.nla.nlas_write.Given as goal

abbrev pub invariant-loop-nla : goal.invariant-loop-nla
invariant-loop-nla g l = record {
  written : Writes (canons g.N.Nla.frame (take l.nla-index l.nlas)) l.initial.buffer l.buffer l.at;
  same : length l.buffer ≡ length l.initial.buffer;
}
