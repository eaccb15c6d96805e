use Rattle.std.proofs.Common.{arith}
use Rattle.nla_wire.proofs.Ascii.{ascii_8}
use Rattle.nla_wire.proofs.text.begins_ascii_8.Goals as goal

pub returns : goal.returns
returns c =
    ascii_8 c.args.bytes.now (λ i. omega (arith, c.type_inv.bytes i)) c.u64_at.result c.requires c.u64_at.ensures
