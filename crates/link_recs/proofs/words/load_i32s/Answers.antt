use Rattle.std.proofs.Common.{refl, arith}
use Rattle.std.specs.Int.{w32, cast_signed, cast_unsigned}
use Rattle.link_recs.proofs.Numbers.{signed_turn}
use Rattle.link_recs.proofs.words.load_i32s.Goals as goal

pub loop-i-preserved : goal.loop-i-preserved
loop-i-preserved c =
    signed_turn w32 c.args.payload.now c.loop-i.words c.loop-i.i 4 (cast_signed w32 (cast_unsigned w32 c.i32_at.result))
    refl (omega (arith, c.loop-i-test.true, c.loop-i.auto.words)) c.loop-i.invariant c.i32_at.ensures.passed
