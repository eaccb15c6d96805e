use Rattle.std.proofs.Common.{refl, arith}
use Rattle.std.specs.Int.{w64}
use Rattle.link_recs.proofs.Numbers.{numbers_turn}
use Rattle.link_recs.proofs.words.load_u64s.Goals as goal

pub loop-i-preserved : goal.loop-i-preserved
loop-i-preserved c =
    numbers_turn w64 c.args.payload.now c.loop-i.words c.loop-i.i 8 c.u64_at.result refl
    (omega (arith, c.loop-i-test.true, c.loop-i.auto.words)) c.loop-i.invariant c.u64_at.ensures
