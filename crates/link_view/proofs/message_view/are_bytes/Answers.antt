use Rattle.std.proofs.Common.{arith}
use Rattle.nla_wire.proofs.Front.{all_bytes}
use Rattle.link_view.proofs.message_view.are_bytes.Goals as goal

pub returns : goal.returns
returns c = all_bytes c.args._bytes.now (λ i. omega (arith, c.type_inv._bytes i))
