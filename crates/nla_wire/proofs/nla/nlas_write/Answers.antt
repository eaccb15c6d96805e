use Rattle.std.proofs.Common.{arith, length-take, length-drop}
use Rattle.nla_wire.proofs.Prefixes.{canons_up_to}
use Rattle.nla_wire.proofs.nla.nlas_write.Goals as goal

pub write-at-requires-clause-room : goal.write-at-requires-clause-room
write-at-requires-clause-room g c =
    let here = canons_up_to g.N.Nla.frame c.args.nlas.now c.loop-nla.nla-index c.nla-item.result c.loop-nla-test.true
    c.nla-item.is in
    simp (length-take, length-drop)
    (omega (arith, here, c.requires.room, c.loop-nla.invariant.written.length_is, c.loop-nla.invariant.same))
