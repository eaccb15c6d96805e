use Rattle.std.proofs.Common.{◌≤◌, length, arith}
use Rattle.nla_wire.specs.Sizes.{most_payload}
use Rattle.nla_wire.proofs.Written.{short_weighs, whole_weighs}
use Rattle.nla_wire.proofs.record.Record.size_for.Goals as goal

pub returns : goal.returns
returns g c =
    let size = g.met.Self.Record.laws.sized c.args._payload.now in (
      λ whole. whole_weighs g.row.SIZE g.Self.Record.of g.Self.Record.bytes
          (λ r. length (g.Self.Record.bytes r) ≤ most_payload) c.args._payload.now whole
          (omega (arith, size, c.requires)) size,
      λ short. short_weighs g.row.SIZE g.Self.Record.of g.Self.Record.bytes
          (λ r. length (g.Self.Record.bytes r) ≤ most_payload) c.args._payload.now short,
    )
