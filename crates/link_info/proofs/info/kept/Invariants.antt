use Rattle.std.proofs.Common.{◌≡◌, ◌++◌, map, Ok}
use Rattle.nla_wire.specs.Items.{items}
use Rattle.link_info.proofs.info.kept.Given as goal

abbrev pub invariant-loop-item : goal.invariant-loop-item
invariant-loop-item l = map (λ f. Ok f) l.frames.items ++ l.item-iterator ≡ items l.bytes
