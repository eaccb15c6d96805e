use Rattle.std.proofs.Common.{◌≡◌, ◌<◌, ◌+◌, ◌∙◌, ◌++◌, List, [], ap, codes, false, get_or, length, refl, rules}
use Rattle.std.proofs.Common.{subst, sym}
use Rattle.std.proofs.lemmas.List.{nil_from_length}
use Rattle.std.specs.Prelude.{None, Option, Some, option_and_then}
use Rattle.shown.specs.Drafts.{Draft, with_members}
use Rattle.frame_shown.specs.Items.{objects}
use Rattle.frame_diff.specs.Items.{items_told, joined}
use Rattle.frame_diff.specs.Keyed.{AreKept, are_any, kept_moved, label_items, labels_now, others_items, value_of}
use Rattle.frame_diff.specs.Labels.{IsIndex, label_step, labels_of, place_of}
use Rattle.frame_diff.specs.Values.{kept_held, kept_inside_at}
use Rattle.frame_diff.specs.declared.kept.Kept.{Kept}
use Rattle.frame_diff.specs.declared.keyed.Labelled.{Labelled}
use Rattle.frame_diff.specs.declared.keys.Key.TheVariants as Keys
use Rattle.frame_diff.proofs.KeyedTold.{forest_told, kept_apart, kept_are, label_place, one_further}
use Rattle.frame_diff.proofs.Moved.{behind_moved, moved_none, nothing_kept}
use Rattle.frame_diff.proofs.kept.tell_others.Goals as goal

pub loop-one-init : goal.loop-one-init
loop-one-init c =
    let is_state = c.args.pass.is_state in
    let side = c.args.pass.side in
    let text = joined c.args.path.now (codes "other") in
    let vs : List (Labelled (Option Kept)) = c.as_slice-one-items.result.now in
    let ws : List (Labelled (Option Kept)) = c.in_ok-theirs.theirs.items in
    let items : vs ≡ c.in_ok-values.values.items = c.as_slice-one-items.ensures.value in
    let own : AreKept is_state c.args.own labels_of vs =
    subst (AreKept is_state c.args.own labels_of) (sym items) c.in_ok-values.ensures in
    let others : AreKept is_state c.args.others labels_of ws = c.in_ok-theirs.ensures in
    let path : c.as_str.result.now ≡ text = search rules in
    let moved : c.tell_moved.new.page ≡ with_members (objects (kept_moved side text is_state c.args.own c.args.others))
    c.args.page.now =
    c.in_ok-tell_moved.ensures is_state
    (subst (AreKept is_state c.args.own labels_of) (sym c.as_slice-3.ensures.value) c.in_ok-values.ensures)
    (subst (AreKept is_state c.args.others labels_of) (sym c.as_slice-4.ensures.value) c.in_ok-theirs.ensures)
    ∙ ap (λ p. with_members (objects (kept_moved side p is_state c.args.own c.args.others)) c.args.page.now) path in
    record {
      place = refl;
      own = own;
      index = λ others is. subst (λ xs. IsIndex c.in_ok-places.places (labels_now xs) (labels_now others))
          (c.as_slice.ensures.value ∙ sym items)
          (subst (λ xs. IsIndex c.in_ok-places.places (labels_now c.as_slice.result.now) (labels_now xs))
          (c.as_slice-2.ensures.value ∙ sym is) c.in_ok-places.ensures);
      told = sym (ap (λ os. with_members (objects os) c.tell_moved.new.page)
          ((λ k. items_told side text (kept_are is_state c.args.own vs own k)
          (kept_are is_state c.args.others ws others k))
          ∙ forest_told Keys.Number kept_held side text vs ws (kept_apart is_state c.args.own vs own)
          (kept_apart is_state c.args.others ws others)))
          ∙ behind_moved (kept_moved side text is_state c.args.own c.args.others)
          (items_told side text (kept_inside_at is_state c.args.own) (kept_inside_at is_state c.args.others))
          c.args.page.now c.tell_moved.new.page moved;
    }

pub loop-one-preserved : goal.loop-one-preserved
loop-one-preserved c =
    let is_state = c.args.pass.is_state in
    let side = c.args.pass.side in
    let text = joined c.args.path.now (codes "other") in
    let path : c.as_str-text.result.now ≡ text = search rules in
    let vs : List (Labelled (Option Kept)) = c.as_slice-one-items.result.now in
    let ws : List (Labelled (Option Kept)) = c.in_ok-theirs.theirs.items in
    let i = c.loop-one.one-index in
    let d : Labelled (Option Kept) = record { label = record { number = None; again = 0 }; value = None } in
    let v : Labelled (Option Kept) = get_or vs i d in
    let within : i < length vs = search rules in
    let place : place_of v.label (labels_now vs) ≡ Some c.loop-one.place =
    label_place vs i v d (kept_apart is_state c.args.own vs c.loop-one.invariant.own) within refl
    ∙ ap Some (sym c.loop-one.invariant.place) in
    let all : Draft = with_members (objects (others_items side text is_state c.args.own c.args.others))
    c.args.page.now in
    let beside = option_and_then kept_held c.value_beside-beside.result in
    record {
      place = ap (λ n. n + 1) c.loop-one.invariant.place;
      own = c.loop-one.invariant.own;
      index = c.loop-one.invariant.index;
      told = one_further Keys.Number kept_held side text vs ws i v d c.value_beside-beside.result c.loop-one.page
          c.tell_labelled.new.page all within refl
          (c.value_beside-beside.ensures (labels_now vs) place
          (c.loop-one.invariant.index c.as_slice-in-loop-one.result.now c.as_slice-in-loop-one.ensures.value)
          ∙ ap (value_of v.label) c.as_slice-in-loop-one.ensures.value)
          (c.in_ok-tell_labelled.ensures
          ∙ ap (λ p. with_members (objects (label_items side p (label_step Keys.Number v.label) (kept_held v.value)
          beside)) c.loop-one.page) path)
          c.loop-one.invariant.told;
    }

pub returns-then-is_empty : goal.returns-then-is_empty
returns-then-is_empty c =
    let vs : List (Labelled (Option Kept)) = c.in_ok-values.values.items in
    let none : vs ≡ [] = nil_from_length vs (search rules) in
    let is_state = c.args.pass.is_state in
    let side = c.args.pass.side in
    let text = joined c.args.path.now (codes "other") in
    let any : are_any vs ≡ false = ap are_any none in
    sym (λ k. with_members (objects (
    moved_none side text is_state c.args.own c.args.others vs c.in_ok-values.ensures any k
    ++ items_told side text (nothing_kept is_state c.args.own vs c.in_ok-values.ensures any k)
    (kept_inside_at is_state c.args.others))) c.args.page.now)
