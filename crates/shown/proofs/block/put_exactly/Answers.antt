use Rattle.std.proofs.Common.{◌≡◌, refl, length, take, drop, arith}
use Rattle.std.proofs.lemmas.Simd.{length-chunk, length-put_chunk, take_more_put_chunk, zip2_of_maps, zip2_splat}
use lib.Lanes.{chunk}
use Rattle.shown.specs.Escapes.{may_escape}
use Rattle.shown.proofs.Blocks.{plain_lanes}
use Rattle.shown.proofs.block.put_exactly.Goals as goal

pub returns-clause-placed : goal.returns-clause-placed
returns-clause-placed c =
    let block = take 16 (drop c.args.from c.args.text.now) in
    let long : length block ≡ 16 = length-chunk c.args.from 16 c.args.text.now c.requires.from in
    record {
      bytes = take_more_put_chunk c.args.at c.args.buf.now block _ (omega arith) c.requires.room;
      moved = omega arith;
      len = length-put_chunk c.args.at c.args.buf.now block;
    }

pub returns-clause-plain : goal.returns-clause-plain
returns-clause-plain c =
    let v = chunk c.args.from 16 c.args.text.now in
    let long : length v ≡ 16 = length-chunk c.args.from 16 c.args.text.now c.requires.from in
    plain_lanes _ may_escape refl refl c.args.text.now c.args.from 16 c.requires.from (omega arith) c.type_inv.text _
    (zip2_of_maps _ _ _ v
    (zip2_of_maps _ _ _ v
    (zip2_of_maps _ _ _ v
    (zip2_of_maps _ _ _ v
    (zip2_of_maps _ _ _ v
    (zip2_of_maps _ _ _ v (zip2_splat _ v 16 0x20 long) (zip2_splat _ v 16 0x22 long)) (zip2_splat _ v 16 0x5c long))
    (zip2_splat _ v 16 0x7f long)) (zip2_splat _ v 16 0xc2 long)) (zip2_splat _ v 16 0xd8 long))
    (zip2_splat _ v 16 0xe2 long))
