use Rattle.std.proofs.Common.{sym, arith}
use Rattle.nla_wire.proofs.record.Record.measure_filled.Goals as goal

pub returns : goal.returns
returns g c = let size = g.met.Self.Record.laws.sized c.args._payload.now in (omega (arith, size, c.requires), sym size)
