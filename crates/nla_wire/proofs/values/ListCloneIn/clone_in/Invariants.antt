use Rattle.std.proofs.Common.{◌≡◌, take}
use Rattle.nla_wire.proofs.values.ListCloneIn.clone_in.Given as goal

abbrev pub invariant-loop-value : goal.invariant-loop-value
invariant-loop-value g l = l.vec.items ≡ take l.value-index l.value-items
