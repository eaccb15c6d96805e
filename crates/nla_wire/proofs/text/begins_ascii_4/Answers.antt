use Rattle.std.proofs.Common.{arith}
use Rattle.nla_wire.proofs.Ascii.{ascii_4}
use Rattle.nla_wire.proofs.text.begins_ascii_4.Goals as goal

pub returns : goal.returns
returns c =
    ascii_4 c.args.bytes.now (λ i. omega (arith, c.type_inv.bytes i)) c.u32_at.result c.requires c.u32_at.ensures
