use Rattle.std.proofs.Common.{ap, arith}
use Rattle.nla_wire.specs.Frames.{missing}
use Rattle.nla_wire.proofs.Bounds.{length-canon}
use Rattle.nla_wire.proofs.Prefixes.{canons_up_to}
use Rattle.nla_wire.proofs.nla.nlas_measure.Goals as goal

pub returns-in_default-add_len : goal.returns-in_default-add_len
returns-in_default-add_len g c = λ all.
    let here = canons_up_to g.N.Nla.frame c.args.nlas.now c.loop-nla.nla-index c.nla-item.result c.loop-nla-test.true
    c.nla-item.is in
    absurd (c.in_default-add_len.ensures
    (omega (
      arith,
      here,
      all.1,
      c.loop-nla.invariant.len_is,
      c.padded_len.ensures,
      c.in-Some.ensures.1,
      length-canon (g.N.Nla.frame c.nla-item.result),
      ap missing c.in-Some.ensures.1,
    )))
