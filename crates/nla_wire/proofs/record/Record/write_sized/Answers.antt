use Rattle.std.proofs.Common.{ap, arith}
use Rattle.nla_wire.specs.Frames.{missing}
use Rattle.nla_wire.proofs.Bounds.{length-canon}
use Rattle.nla_wire.proofs.record.Record.write_sized.Goals as goal

pub write_attribute-requires-clause-room : goal.write_attribute-requires-clause-room
write_attribute-requires-clause-room g c = omega (
  arith,
  c.requires.room,
  length-canon (record { kind = c.args.kind; payload = g.Self.Record.bytes (g.Self.Record.of c.args.payload.now) }),
  g.met.Self.Record.laws.sized c.args.payload.now,
  ap missing (g.met.Self.Record.laws.sized c.args.payload.now),
)
