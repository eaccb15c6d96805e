use Rattle.std.proofs.Common.{◌≡◌, ◌<◌, ◌+◌, ◌∙◌, List, ap, length, refl, rules, subst, sym}
use Rattle.std.specs.Prelude.{Some}
use Rattle.shown.specs.Drafts.{Draft, with_members}
use Rattle.frame_shown.specs.Items.{objects}
use Rattle.frame_diff.specs.Groups.{labelled_inside}
use Rattle.frame_diff.specs.Items.{items_told}
use Rattle.frame_diff.specs.Keyed.{AreIn, AreLabelled, IsIn, labels_now, value_of}
use Rattle.frame_diff.specs.Labels.{IsIndex, labels_of, place_of}
use Rattle.frame_diff.specs.Walked.{HasNames}
use Rattle.frame_diff.specs.declared.keyed.Labelled.{Labelled}
use Rattle.frame_diff.specs.declared.walk.Attribute.{Attribute}
use Rattle.frame_diff.proofs.KeyedTold.{beside_entries, beside_stands, distinct_now, found_in, keyed_next, keyed_told}
use Rattle.frame_diff.proofs.KeyedTold.{label_place, one_in}
use Rattle.frame_diff.proofs.keyed.tell_keyed.Goals as goal

pub loop-one-init : goal.loop-one-init
loop-one-init g c =
    let nest = g.W.Depth.nest in
    let inner = g.W.Walk.inner in
    let is_state = c.args.pass.is_state in
    let vs : List (Labelled Attribute) = c.as_slice-one-items.result.now in
    let ws : List (Labelled Attribute) = c.in_ok-theirs.theirs.items in
    let items : vs ≡ c.in_ok-values.values.items = c.as_slice-one-items.ensures.value in
    let own : AreLabelled is_state c.args.own labels_of vs =
    subst (AreLabelled is_state c.args.own labels_of) (sym items) c.in_ok-values.ensures in
    let others : AreLabelled is_state c.args.others labels_of ws = c.in_ok-theirs.ensures in
    record {
      place = refl;
      own = own;
      others = others;
      index = λ others is. subst (λ xs. IsIndex c.in_ok-places.places (labels_now xs) (labels_now others))
          (c.as_slice.ensures.value ∙ sym items)
          (subst (λ xs. IsIndex c.in_ok-places.places (labels_now c.as_slice.result.now) (labels_now xs))
          (c.as_slice-2.ensures.value ∙ sym is) c.in_ok-places.ensures);
      told = sym (ap (λ os. with_members (objects os) c.args.page.now)
          (keyed_told nest inner is_state c.args.key c.args.pass.side c.args.path.now c.args.own c.args.others vs ws
          c.requires.own c.requires.others own others));
    }

pub loop-one-preserved : goal.loop-one-preserved
loop-one-preserved g c =
    let nest = g.W.Depth.nest in
    let inner = g.W.Walk.inner in
    let is_state = c.args.pass.is_state in
    let vs : List (Labelled Attribute) = c.as_slice-one-items.result.now in
    let ws : List (Labelled Attribute) = c.in_ok-theirs.theirs.items in
    let i = c.loop-one.one-index in
    let within : i < length vs = search rules in
    let apart = distinct_now nest inner is_state c.args.own vs c.loop-one.invariant.own in
    let place : place_of c.one-item.result.label (labels_now vs) ≡ Some c.loop-one.place =
    label_place vs i c.one-item.result _ apart within c.one-item.is ∙ ap Some (sym c.loop-one.invariant.place) in
    let all : Draft = with_members (objects (items_told c.args.pass.side c.args.path.now
    (labelled_inside nest inner is_state c.args.own) (labelled_inside nest inner is_state c.args.others)))
    c.args.page.now in
    record {
      place = ap (λ n. n + 1) c.loop-one.invariant.place;
      own = c.loop-one.invariant.own;
      others = c.loop-one.invariant.others;
      index = c.loop-one.invariant.index;
      told = keyed_next nest inner is_state c.args.key c.args.pass.side c.args.path.now vs ws i c.one-item.result _
          c.value_beside-beside.result c.loop-one.page c.tell_labelled.new.page all within c.one-item.is
          (c.value_beside-beside.ensures (labels_now vs) place
          (c.loop-one.invariant.index c.as_slice-in-loop-one.result.now c.as_slice-in-loop-one.ensures.value)
          ∙ ap (value_of c.one-item.result.label) c.as_slice-in-loop-one.ensures.value)
          c.in_ok-tell_labelled.ensures c.loop-one.invariant.told;
    }

pub tell_labelled-requires-clause-fits : goal.tell_labelled-requires-clause-fits
tell_labelled-requires-clause-fits g c =
    let vs : List (Labelled Attribute) = c.as_slice-one-items.result.now in
    let within : c.loop-one.one-index < length vs = search rules in
    let of : IsIn c.args.own c.one-item.result.value = one_in c.args.own vs c.loop-one.one-index c.one-item.result _
    c.loop-one.invariant.own.0 within c.one-item.is in
    subst g.V.Values.fits (sym of.0) c.requires.fits

pub tell_labelled-requires-clause-names : goal.tell_labelled-requires-clause-names
tell_labelled-requires-clause-names g c =
    let vs : List (Labelled Attribute) = c.as_slice-one-items.result.now in
    let within : c.loop-one.one-index < length vs = search rules in
    let of : IsIn c.args.own c.one-item.result.value = one_in c.args.own vs c.loop-one.one-index c.one-item.result _
    c.loop-one.invariant.own.0 within c.one-item.is in
    subst HasNames (sym of.1) c.requires.names

pub tell_labelled-requires-clause-entries : goal.tell_labelled-requires-clause-entries
tell_labelled-requires-clause-entries g c =
    let vs : List (Labelled Attribute) = c.as_slice-one-items.result.now in
    let within : c.loop-one.one-index < length vs = search rules in
    let of : IsIn c.args.own c.one-item.result.value = one_in c.args.own vs c.loop-one.one-index c.one-item.result _
    c.loop-one.invariant.own.0 within c.one-item.is in
    let apart = distinct_now g.W.Depth.nest g.W.Walk.inner c.args.pass.is_state c.args.own vs
    c.loop-one.invariant.own in
    let place : place_of c.one-item.result.label (labels_now vs) ≡ Some c.loop-one.place =
    label_place vs c.loop-one.one-index c.one-item.result _ apart within c.one-item.is
    ∙ ap Some (sym c.loop-one.invariant.place) in
    let found = found_in c.args.others c.as_slice-in-loop-one.result.now c.one-item.result.label
    c.value_beside-beside.result (c.value_beside-beside.ensures (labels_now vs) place
    (c.loop-one.invariant.index c.as_slice-in-loop-one.result.now c.as_slice-in-loop-one.ensures.value))
    (subst (AreIn c.args.others) (sym c.as_slice-in-loop-one.ensures.value) c.loop-one.invariant.others.0) in
    beside_entries c.args.own c.args.others c.one-item.result.value c.value_beside-beside.result of found
    c.requires.entries

pub tell_labelled-requires-clause-alike : goal.tell_labelled-requires-clause-alike
tell_labelled-requires-clause-alike g c h =
    let vs : List (Labelled Attribute) = c.as_slice-one-items.result.now in
    let within : c.loop-one.one-index < length vs = search rules in
    let of : IsIn c.args.own c.one-item.result.value = one_in c.args.own vs c.loop-one.one-index c.one-item.result _
    c.loop-one.invariant.own.0 within c.one-item.is in
    let apart = distinct_now g.W.Depth.nest g.W.Walk.inner c.args.pass.is_state c.args.own vs
    c.loop-one.invariant.own in
    let place : place_of c.one-item.result.label (labels_now vs) ≡ Some c.loop-one.place =
    label_place vs c.loop-one.one-index c.one-item.result _ apart within c.one-item.is
    ∙ ap Some (sym c.loop-one.invariant.place) in
    let found = found_in c.args.others c.as_slice-in-loop-one.result.now c.one-item.result.label
    c.value_beside-beside.result (c.value_beside-beside.ensures (labels_now vs) place
    (c.loop-one.invariant.index c.as_slice-in-loop-one.result.now c.as_slice-in-loop-one.ensures.value))
    (subst (AreIn c.args.others) (sym c.as_slice-in-loop-one.ensures.value) c.loop-one.invariant.others.0) in
    beside_stands c.args.own c.args.others c.one-item.result.value c.value_beside-beside.result of found
    (c.requires.alike h)
