use Rattle.std.proofs.Common.{rules, ◌+◌, ◌-◌, ◌≡◌, ◌≤◌, ◌<◌, length, ◌∙◌, ap, refl, arith, ◌++◌, take, drop}
use Rattle.std.specs.Int.{w16, to_le_bytes}
use borrow.Rule.Slice.PartMut.{put_mid}
use Rattle.link_state.specs.Thinned.{thinned}
use Rattle.link_state.proofs.Thinning.{wrapped_at}
use Rattle.link_state.proofs.thin.thin_wrapped.Goals as goal

pub returns-clause-left : goal.returns-clause-left
returns-clause-left g c =
    let frame = c.args.frame.now in
    let len = c.args.len in
    let left = c.thin_list-left.result in
    let q = c.thin_list-left.new.list in
    let size = 4 + len - 4 in
    let made = put_mid 4 size frame q in
    let size_is : size ≡ len = omega arith in
    let q_size : length q ≡ len = Prim.search rules in
    let fits : left ≤ length q = Prim.search rules in
    let some : 0 < left = Prim.search rules in
    wrapped_at frame made c.put_u16.new.buffer q (thinned g.L.Thinned.level (take len (drop 4 frame))) len left size
    c.requires.inside size_is refl q_size fits
    (c.thin_list-left.ensures.left ∙ ap (λ i. thinned g.L.Thinned.level (take i (drop 4 frame))) size_is) some
    (c.put_u16.ensures.after ∙ ap (λ n. take 0 made ++ to_le_bytes w16 n ++ drop 2 made) c.to_u16.ensures)
