use Rattle.std.proofs.Common.{arith}
use Rattle.nla_wire.proofs.Front.{all_bytes}
use Rattle.nla_wire.proofs.Items.{items_are, items_count}
use Rattle.nla_wire.proofs.iterator.NlasIterator.new.Goals as goal

pub returns-clause-frames : goal.returns-clause-frames
returns-clause-frames c =
    items_are c.args.bytes.now (all_bytes c.args.bytes.now (λ i. omega (arith, c.type_inv.bytes i)))

pub returns-clause-few : goal.returns-clause-few
returns-clause-few c = items_count c.args.bytes.now
