use Rattle.std.proofs.Common.{arith}
use Rattle.nla_wire.specs.Canon.{canons}
use Rattle.nla_wire.proofs.Bounds.{length-canon}
use Rattle.nla_wire.proofs.Canonical.{finished_value}
use Rattle.nla_wire.proofs.nla.write_list.Goals as goal

pub returns : goal.returns
returns g c =
    finished_value c.args.kind (canons g.N.Nla.frame c.args.nlas.now) c.args.buffer.now c.nlas_write-len.new.buffer
    c.nlas_write-len.result c.finish.new.out c.finish.result
    (omega (
      arith,
      c.requires.room,
      length-canon (record { kind = c.args.kind; payload = canons g.N.Nla.frame c.args.nlas.now }),
    )) c.nlas_write-len.ensures c.finish.ensures
