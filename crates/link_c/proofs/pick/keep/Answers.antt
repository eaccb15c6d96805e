use Rattle.std.proofs.Common.{◌≡◌, ◌<◌, length, arith}
use Rattle.std.proofs.lemmas.List.{get_or_default}
use Rattle.std.proofs.lemmas.List.Edits.{map_over_more}
use Rattle.link_c.specs.Picks.{kept}
use Rattle.link_c.proofs.pick.keep.Goals as goal

pub loop-place-preserved : goal.loop-place-preserved
loop-place-preserved c =
    let lt : c.loop-place.place-index < length c.args.found.now = omega (arith, c.loop-place-test.true) in
    let here : c.loop-place.place-index < length c.loop-place.found = omega (arith, lt, c.loop-place.auto.found) in
    rw c.kept.ensures (map_over_more (kept c.args.attribute.now) c.args.found.now c.loop-place.found
    c.loop-place.place-index _ lt c.loop-place.invariant
    (get_or_default c.loop-place.found c.loop-place.place-index _ _ here))
