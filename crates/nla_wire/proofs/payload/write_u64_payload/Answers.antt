use Rattle.std.proofs.Common.{arith}
use Rattle.std.specs.Int.{w64}
use Rattle.nla_wire.proofs.Front.{all_bytes}
use Rattle.nla_wire.proofs.Again.{writes_again_8, number_written}
use Rattle.nla_wire.proofs.payload.write_u64_payload.Goals as goal

pub returns : goal.returns
returns c =
    number_written w64 writes_again_8
    c.args.kind c.args.payload.now c.args.out.now c.write_value.new.out c.write_value.result c.requires.exact
    (all_bytes c.args.payload.now (λ i. omega (arith, c.type_inv.payload i))) c.write_value.ensures
