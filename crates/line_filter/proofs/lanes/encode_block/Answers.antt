use Rattle.std.proofs.Common.{ℕ, ◌/◌, ◌%◌, ◌∙◌, ap, get_or, refl, arith}
use Rattle.std.proofs.lemmas.Simd.{length-chunk}
use lib.Lanes.{chunk}
use Rattle.hex.specs.Hex.{lower_digits}
use Rattle.line_filter.proofs.Blocks.{with_splat, block_encoded, below_16_of, lane_of}
use Rattle.line_filter.proofs.lanes.encode_block.Goals as goal

pub digits_of-high-requires : goal.digits_of-high-requires
digits_of-high-requires c =
    let v = chunk c.args.at 16 c.args.bytes.now in
    let long = length-chunk c.args.at 16 c.args.bytes.now c.requires.from in
    below_16_of c.args.bytes.now _ c.args.at _ c.requires.from c.type_inv.bytes (with_splat _ v 16 4 long) refl

pub digits_of-low-requires : goal.digits_of-low-requires
digits_of-low-requires c =
    let v = chunk c.args.at 16 c.args.bytes.now in
    let long = length-chunk c.args.at 16 c.args.bytes.now c.requires.from in
    below_16_of c.args.bytes.now _ c.args.at _ c.requires.from c.type_inv.bytes (with_splat _ v 16 15 long) refl

pub returns : goal.returns
returns c =
    let v = chunk c.args.at 16 c.args.bytes.now in
    let long = length-chunk c.args.at 16 c.args.bytes.now c.requires.from in
    block_encoded c.args.bytes.now c.digits_of-high.result c.digits_of-low.result c.args.digits.now c.args.at c.args.to
    c.requires.from c.requires.to (omega arith) (omega arith)
    (λ j lt. c.digits_of-high.ensures j lt ∙ ap (λ (x : ℕ). get_or lower_digits x 0)
    (lane_of c.args.bytes.now _ c.args.at _ (λ x. x / 16) c.requires.from c.type_inv.bytes
    (with_splat _ v 16 4 long) refl j lt))
    (λ j lt. c.digits_of-low.ensures j lt ∙ ap (λ (x : ℕ). get_or lower_digits x 0)
    (lane_of c.args.bytes.now _ c.args.at _ (λ x. x % 16) c.requires.from c.type_inv.bytes
    (with_splat _ v 16 15 long) refl j lt))
