use Rattle.std.proofs.Common.{refl, arith}
use Rattle.std.specs.Int.{w64, cast_signed, cast_unsigned}
use Rattle.link_recs.proofs.Numbers.{signed_turn}
use Rattle.link_recs.proofs.words.load_i64s.Goals as goal

pub loop-i-preserved : goal.loop-i-preserved
loop-i-preserved c =
    signed_turn w64 c.args.payload.now c.loop-i.words c.loop-i.i 8 (cast_signed w64 (cast_unsigned w64 c.i64_at.result))
    refl (omega (arith, c.loop-i-test.true, c.loop-i.auto.words)) c.loop-i.invariant c.i64_at.ensures.passed
