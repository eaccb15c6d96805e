use Rattle.std.proofs.Common.{arith, refl}
use Rattle.hex.proofs.Pairs.{encode_step, encode_done}
use Rattle.hex.specs.Hex.{lower_digits}
use Rattle.line_filter.proofs.Blocks.{encode_more}
use Rattle.line_filter.proofs.digits.encode.Goals as goal

pub loop-done-preserved : goal.loop-done-preserved
loop-done-preserved c = record {
  within = omega arith;
  spelled = encode_more c.args.bytes.now c.loop-done.digits c.encode_block.new.digits c.loop-done.done
      c.encode_block.ensures c.loop-done.invariant.spelled;
}

pub loop-place-preserved : goal.loop-place-preserved
loop-place-preserved c =
    encode_step lower_digits c.args.bytes.now c.loop-place.digits c.loop-place.place _ _ (omega arith) (omega arith)
    refl refl c.loop-place.invariant

pub returns : goal.returns
returns c =
    encode_done lower_digits c.args.bytes.now c.loop-place.digits c.loop-place.place (omega arith) (omega arith)
    c.loop-place.invariant
