use Rattle.std.proofs.Common.{arith}
use Rattle.nla_wire.proofs.Prefixes.{canons_up_to}
use Rattle.nla_wire.proofs.nla.nlas_buffer_len.Goals as goal

pub overflow_add-len : goal.overflow_add-len
overflow_add-len g c =
    omega (
      arith,
      c.loop-nla.invariant,
      c.buffer_len-len.ensures,
      c.requires.1,
      canons_up_to g.N.Nla.frame c.args.nlas.now c.loop-nla.nla-index c.nla-item.result c.loop-nla-test.true
          c.nla-item.is,
    )
