use Rattle.std.proofs.Common.{refl, arith}
use Rattle.std.specs.Int.{w32}
use Rattle.link_recs.proofs.Numbers.{numbers_turn}
use Rattle.link_recs.proofs.words.load_u32s.Goals as goal

pub loop-i-preserved : goal.loop-i-preserved
loop-i-preserved c =
    numbers_turn w32 c.args.payload.now c.loop-i.words c.loop-i.i 4 c.u32_at.result refl
    (omega (arith, c.loop-i-test.true, c.loop-i.auto.words)) c.loop-i.invariant c.u32_at.ensures
