use Rattle.std.proofs.Common.{◌≡◌, ◌+◌, refl, length, arith}
use Rattle.std.proofs.lemmas.Simd.{length-chunk, zip2_of_maps, zip2_splat}
use lib.Lanes.{chunk}
use Rattle.shown.proofs.Blocks.{clear_lanes}
use Rattle.shown.proofs.Escapes.{both_seen, goes_on, may_alone}
use Rattle.shown.proofs.block.are_seen.Goals as goal

pub returns : goal.returns
returns c =
    let text = c.args.text.now in
    let from = c.args.from in
    let v = chunk from 16 text in
    let w = chunk (from + 1) 16 text in
    let long : length v ≡ 16 = length-chunk from 16 text (omega (arith, c.requires)) in
    let behind : length w ≡ 16 = length-chunk (from + 1) 16 text (omega (arith, c.requires)) in
    both_seen text from _ _
    (clear_lanes may_alone _ may_alone refl refl text from 16 (omega (arith, c.requires)) (omega arith)
    c.type_inv.text _
    (zip2_of_maps _ _ _ v
    (zip2_of_maps _ _ _ v
    (zip2_of_maps _ _ _ v
    (zip2_of_maps _ _ _ v
    (zip2_of_maps _ _ _ v (zip2_splat _ v 16 0x20 long) (zip2_splat _ v 16 0x22 long)) (zip2_splat _ v 16 0x5c long))
    (zip2_splat _ v 16 0x7f long)) (zip2_splat _ v 16 0xc2 long)) (zip2_splat _ v 16 0xd8 long)))
    (clear_lanes goes_on _ goes_on refl refl text (from + 1) 16 (omega (arith, c.requires)) (omega arith)
    c.type_inv.text _
    (zip2_of_maps _ _ _ w (zip2_splat _ w 16 0x80 behind) (zip2_splat _ w 16 0x81 behind)))
