use Rattle.std.proofs.Common.{◌+◌, ◌-◌, arith}
use Rattle.nla_wire.proofs.Canonical.{finished_filled}
use Rattle.nla_wire.proofs.nla.Nla.write.Goals as goal

pub returns : goal.returns
returns g c =
    finished_filled c.kind.result (g.Self.Nla.frame c.args.self.now) c.args.buffer.now c.fill_value-start.new.buffer
    c.value_len-len.result (4 + c.value_len-len.result - 4) c.fill_value-start.result c.finish.new.out c.finish.result
    c.kind.ensures c.requires.room c.value_len-len.ensures (omega arith) c.fill_value-start.ensures c.finish.ensures
