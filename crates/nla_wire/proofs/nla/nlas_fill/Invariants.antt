use Rattle.std.proofs.Common.{◌≤◌, length, drop}
use Rattle.nla_wire.specs.Canon.{canons, Filled}
use Rattle.nla_wire.proofs.nla.nlas_fill.Given as goal

abbrev pub invariant-loop-left : goal.invariant-loop-left
invariant-loop-left g l = record {
  in_range : l.left ≤ length l.nlas;
  filled : Filled l.initial.buffer l.buffer (canons g.N.Nla.frame (drop l.left l.nlas)) l.start;
}

abbrev pub decreases-loop-left : goal.decreases-loop-left
decreases-loop-left g l = l.left
