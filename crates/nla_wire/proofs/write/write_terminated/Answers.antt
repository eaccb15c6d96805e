use Rattle.std.proofs.Common.{arith}
use Rattle.nla_wire.proofs.Canonical.{nul_after}
use Rattle.nla_wire.proofs.write.write_terminated.Goals as goal

pub returns : goal.returns
returns c =
    nul_after c.args.bytes.now c.args.out.now c.write_name-len.new.out c.write_name-len.result
    (omega (arith, c.requires)) c.write_name-len.ensures
