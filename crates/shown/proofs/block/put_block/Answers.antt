use Rattle.std.proofs.Common.{◌≡◌, ◌==◌, ◌||◌, not, refl, ℕ, Bool, length, take, drop, arith}
use Rattle.std.proofs.lemmas.Simd.{length-chunk, length-put_chunk, splat_is_map, take_more_put_chunk, zip2_of_maps}
use Rattle.std.proofs.lemmas.Simd.{zip2_splat}
use Rattle.std.specs.Int.{is_in_range}
use lib.Lanes.{chunk}
use Rattle.shown.proofs.Blocks.{plain_lanes}
use Rattle.shown.proofs.block.put_block.Goals as goal

pub returns-clause-placed : goal.returns-clause-placed
returns-clause-placed g c =
    let block = take g.row.N (drop c.args.from c.args.text.now) in
    let long : length block ≡ g.row.N = length-chunk c.args.from g.row.N c.args.text.now c.requires.from in
    record {
      bytes = take_more_put_chunk c.args.at c.args.buf.now block _ (omega arith) c.requires.room;
      moved = omega arith;
      len = length-put_chunk c.args.at c.args.buf.now block;
    }

abbrev is_other : ℕ → Bool
is_other x = not (is_in_range 0x20 0x7e x) || (x == 0x22) || (x == 0x5c)

pub returns-clause-plain : goal.returns-clause-plain
returns-clause-plain g c =
    let v = chunk c.args.from g.row.N c.args.text.now in
    let long : length v ≡ g.row.N = length-chunk c.args.from g.row.N c.args.text.now c.requires.from in
    plain_lanes _ is_other refl refl c.args.text.now c.args.from g.row.N c.requires.from c.requires.few c.type_inv.text
    _
    (zip2_of_maps _ _ _ v
    (zip2_of_maps _ _ _ v
    (zip2_of_maps _ (λ _. 94) _ v (splat_is_map v g.row.N 94 long) (zip2_splat _ v g.row.N 32 long))
    (zip2_splat _ v g.row.N 34 long)) (zip2_splat _ v g.row.N 92 long))
