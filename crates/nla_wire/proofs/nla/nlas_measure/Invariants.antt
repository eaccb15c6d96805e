use Rattle.std.proofs.Common.{◌≡◌, ◌<◌, ◌^◌, length, take}
use Rattle.std.specs.List.{AllByRecursion}
use Rattle.nla_wire.specs.Canon.{canons}
use Rattle.nla_wire.proofs.nla.nlas_measure.Given as goal

abbrev pub invariant-loop-nla : goal.invariant-loop-nla
invariant-loop-nla g l = record {
  fit : AllByRecursion g.N.Nla.fits (take l.nla-index l.nlas);
  len_is : l.len ≡ length (canons g.N.Nla.frame (take l.nla-index l.nlas));
  in_range : l.len < 2 ^ 64;
}
