use Rattle.std.proofs.Common.{arith}
use Rattle.nla_wire.proofs.Canonical.{finished_value}
use Rattle.nla_wire.proofs.write.write_value.Goals as goal

pub returns : goal.returns
returns c =
    finished_value c.args.kind c.args.value.now c.args.out.now c.write_bytes-len.new.out c.write_bytes-len.result
    c.finish.new.out c.finish.result (omega arith) c.write_bytes-len.ensures c.finish.ensures
