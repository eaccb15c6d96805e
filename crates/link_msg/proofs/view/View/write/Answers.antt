use Rattle.std.proofs.Common.{length, ap, ◌∙◌, arith}
use Rattle.nla_wire.specs.Frames.{missing}
use Rattle.nla_wire.proofs.Bounds.{length-canon}
use Rattle.link_recs.proofs.StatsLemmas.{length_stats_bytes}
use Rattle.link_recs.proofs.Stats64Lemmas.{length_stats64_bytes}
use Rattle.link_recs.proofs.MapLemmas.{length_map_bytes}
use Rattle.link_msg.specs.View.{view_bytes}
use Rattle.link_msg.proofs.view.View.write.Goals as goal

pub write_attribute-requires-clause-room : goal.write_attribute-requires-clause-room
write_attribute-requires-clause-room c =
    let size = ap (λ t. length (view_bytes t)) c.in-Stats.is ∙ length_stats_bytes c.in-Stats.stats.now in
    omega (
      arith,
      c.requires.room,
      length-canon (record { kind = c.args.kind; payload = view_bytes c.args.self.now }),
      size,
      ap missing size,
    )

pub write_attribute-requires-in-Stats64-clause-room : goal.write_attribute-requires-in-Stats64-clause-room
write_attribute-requires-in-Stats64-clause-room c =
    let size = ap (λ t. length (view_bytes t)) c.in-Stats64.is ∙ length_stats64_bytes c.in-Stats64.stats.now in
    omega (
      arith,
      c.requires.room,
      length-canon (record { kind = c.args.kind; payload = view_bytes c.args.self.now }),
      size,
      ap missing size,
    )

pub write_attribute-requires-in-Map-clause-room : goal.write_attribute-requires-in-Map-clause-room
write_attribute-requires-in-Map-clause-room c =
    let size = ap (λ t. length (view_bytes t)) c.in-Map.is ∙ length_map_bytes c.in-Map.map.now in
    omega (
      arith,
      c.requires.room,
      length-canon (record { kind = c.args.kind; payload = view_bytes c.args.self.now }),
      size,
      ap missing size,
    )
