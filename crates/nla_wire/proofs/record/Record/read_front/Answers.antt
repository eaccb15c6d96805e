use Rattle.std.proofs.Common.{◌∙◌}
use Rattle.nla_wire.proofs.RecordParts.{front}
use Rattle.nla_wire.proofs.record.Record.read_front.Goals as goal

pub returns : goal.returns
returns g c =
    c.read.ensures ∙ front g.row.SIZE g.Self.Record.of g.met.Self.Record.laws.longer c.args.payload.now c.requires
