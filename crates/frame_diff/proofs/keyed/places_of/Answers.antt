use Rattle.std.proofs.Common.{◌≡◌, ◌+◌, ◌-◌, ◌<◌, arith, length, subst}
use Rattle.frame_diff.proofs.Labelled.{HasPlaces, places_all, places_further, places_none}
use Rattle.frame_diff.proofs.keyed.places_of.Goals as goal

pub loop-place-init : goal.loop-place-init
loop-place-init g c = record {
  here = omega arith;
  found = places_none c.new-places.result c.args.values.now _ c.new-places.ensures.empty (omega arith);
}

pub loop-place-preserved : goal.loop-place-preserved
loop-place-preserved g c =
    let i = c.loop-place.place - 1 in
    let before : c.loop-place.place ≡ i + 1 = omega arith in
    let within : i < length c.args.values.now = omega arith in
    record {
      here = omega arith;
      found = places_further c.loop-place.places c.insert.new.self c.args.values.now i c.index-values-place.result
          within
          c.in_ok-insert.ensures.updates.0
          (subst (HasPlaces c.loop-place.places c.args.values.now) before c.loop-place.invariant.found);
    }

pub returns : goal.returns
returns g c own m =
    places_all c.loop-place.places c.args.values.now c.loop-place.place (omega arith) c.loop-place.invariant.found m
