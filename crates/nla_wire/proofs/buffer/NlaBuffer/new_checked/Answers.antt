use Rattle.nla_wire.proofs.Front.{all_bytes, checked_front}
use Rattle.std.proofs.Common.{arith}
use Rattle.nla_wire.proofs.buffer.NlaBuffer.new_checked.Goals as goal

pub returns : goal.returns
returns c = checked_front c.args.bytes.now c.at_front.result
    (all_bytes c.args.bytes.now (λ i. omega (arith, c.type_inv.bytes i))) c.at_front.ensures
