use Rattle.std.proofs.Common.{arith, length, ◌<◌, ◌≡◌, ◌-◌, ◌+◌, ◌≤◌}
use Rattle.std.proofs.lemmas.List.{length-take-le}
use Rattle.nla_wire.proofs.Prefixes.{canons_from}
use Rattle.nla_wire.proofs.nla.nlas_fill.Goals as goal

pub fill-start-requires-clause-room : goal.fill-start-requires-clause-room
fill-start-requires-clause-room g c =
    let here : c.loop-left.left - 1 < length c.args.nlas.now =
    omega (arith, c.loop-left-test.true, c.loop-left.invariant.in_range) in
    let next : c.loop-left.left ≡ c.loop-left.left - 1 + 1 = omega (arith, c.loop-left-test.true) in
    let after = canons_from g.N.Nla.frame c.args.nlas.now
    (c.loop-left.left - 1) c.loop-left.left c.index-nlas-left.result here next c.index-nlas-left.is in
    let within : c.loop-left.start ≤ length c.loop-left.buffer =
    omega (arith, c.loop-left.invariant.filled.0, c.loop-left.auto.buffer) in
    omega (
      arith,
      after,
      c.loop-left.invariant.filled.0,
      c.requires.room,
      length-take-le c.loop-left.start c.loop-left.buffer within,
    )
