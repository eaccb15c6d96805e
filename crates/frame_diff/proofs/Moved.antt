-- Attributes that are kept as they are, in another order.
use Rattle.std.proofs.Common.{◌≡◌, ℕ, Bool, true, false, List, [], ◌∷◌, ◌++◌, refl, sym, ap, ◌∙◌, map}
use Rattle.std.specs.Prelude.{Option, Some, None, cond}
use Rattle.std.specs.List.{AllByRecursion, flat_map}
use Rattle.std.proofs.lemmas.List.{map-append}
use Rattle.json.specs.Token.{Token}
use Rattle.shown.specs.Drafts.{Draft, Members, list_of, object_of, with_members}
use Rattle.frame_shown.specs.Items.{objects}
use Rattle.frame_shown.proofs.Items.{both_added}
use Rattle.frame_diff.specs.Forests.{Forest, Held, Member, Step, comes, forest, is_label}
use Rattle.frame_diff.specs.Items.{is_loose, leaf_items, whole_items}
use Rattle.frame_diff.specs.Keyed.{AreKept, are_any, kept_moved, labels_now, list_beside, values_now}
use Rattle.frame_diff.specs.Labels.{at_step, label_step, labelled, labels_of}
use Rattle.frame_diff.specs.Members.{as_object, value_in}
use Rattle.frame_diff.specs.Sides.{is_moved}
use Rattle.frame_diff.specs.Values.{kept_at, kept_held, kept_inside_at, kept_members, other_shown, others_shown}
use Rattle.frame_diff.specs.declared.kept.Kept.{Kept}
use Rattle.frame_diff.specs.declared.keyed.Labelled.{Labelled}
use Rattle.frame_diff.specs.declared.keys.Key.TheVariants as Keys
use Rattle.frame_diff.specs.declared.labels.Label.{Label}
use Rattle.frame_diff.specs.declared.side.Side.{Side}
use Rattle.frame_diff.specs.declared.side.Side.TheVariants.{Old}
use Rattle.frame_diff.specs.declared.walk.Attributes.{Attributes}
use Rattle.frame_diff.proofs.KeyedTold.{kept_are}

-- ** what is shown of them

others_texts : (ks : List (Labelled (Option Kept)))
    → flat_map value_in (map kept_held (values_now ks))
    ≡ flat_map (λ (k : Labelled (Option Kept)). other_shown k.value) ks
others_texts [] = refl
others_texts (k ∷ ks) = λ i. one k.value i ++ others_texts ks i
  where
    one : (o : Option Kept) → value_in (kept_held o) ≡ other_shown o
    one None = refl
    one (Some h) = refl

list_shown : (is_state : Bool) (a : Attributes) (ks : List (Labelled (Option Kept)))
    → AreKept is_state a labels_of ks → list_of (flat_map value_in (kept_at is_state a)) ≡ others_shown ks
list_shown is_state a ks are = ap (λ hs. list_of (flat_map value_in hs)) (sym are.1) ∙ ap list_of (others_texts ks)

-- ** members with labels

abbrev inside_now : List (Labelled (Option Kept)) → List Member
inside_now ks = labelled Keys.Number (labels_now ks) (map kept_held (values_now ks))

abbrev AtLabels : List Member → Type 0
AtLabels ms = AllByRecursion (λ (m : Member). is_label m.0 ≡ true) ms

at_labels : (ls : List Label) (hs : List (Option Held)) → AtLabels (labelled Keys.Number ls hs)
at_labels [] hs = tt
at_labels (l ∷ ls) [] = tt
at_labels (l ∷ ls) (None ∷ hs) = at_labels ls hs
at_labels (l ∷ ls) (Some h ∷ hs) = (refl, at_labels ls hs)

record IsTree (f : Forest) : Type 0 where
  step : Step
  value : List Token
  inside : Forest
  rest : Forest
  is : f ≡ Forest.tree step value inside rest
  label : is_label step ≡ true

tree_of : (m : Member) (ms : List Member) → AtLabels (m ∷ ms) → IsTree (forest (m ∷ ms))
tree_of m [] all = record {
  step = m.0;
  value = m.1.0;
  inside = m.1.1;
  rest = Forest.none;
  is = refl;
  label = all.0;
}
tree_of m (n ∷ ms) all = by (comes m.0 (n ∷ ms)) (tree_of n ms all.1)
  where
    by : (b : Bool) → IsTree (forest (n ∷ ms))
        → IsTree (cond b (forest (n ∷ ms)) (Forest.tree m.0 m.1.0 m.1.1 (forest (n ∷ ms))))
    by true later = later
    by false later = record {
      step = m.0;
      value = m.1.0;
      inside = m.1.1;
      rest = forest (n ∷ ms);
      is = refl;
      label = all.0;
    }

some_inside : (ks : List (Labelled (Option Kept))) → are_any ks ≡ true → IsTree (forest (inside_now ks))
some_inside [] any = absurd cc
some_inside (k ∷ ks) any = by k.value (some_inside ks) any
  where
    by : (o : Option Kept) → (are_any ks ≡ true → IsTree (forest (inside_now ks)))
        → are_any ((record { label = k.label; value = o }) ∷ ks) ≡ true
        → IsTree (forest (at_step (label_step Keys.Number k.label) (kept_held o) ++ inside_now ks))
    by None later any = later any
    by (Some h) later any = tree_of (label_step Keys.Number k.label, as_object (kept_members h)) (inside_now ks)
        (refl, at_labels (labels_now ks) (map kept_held (values_now ks)))

none_inside : (ks : List (Labelled (Option Kept))) → are_any ks ≡ false → inside_now ks ≡ []
none_inside [] none = refl
none_inside (k ∷ ks) none = by k.value (none_inside ks) none
  where
    by : (o : Option Kept) → (are_any ks ≡ false → inside_now ks ≡ [])
        → are_any ((record { label = k.label; value = o }) ∷ ks) ≡ false
        → at_step (label_step Keys.Number k.label) (kept_held o) ++ inside_now ks ≡ []
    by None later none = later none
    by (Some h) later none = absurd cc

module _ (is_state : Bool) (a : Attributes) (ks : List (Labelled (Option Kept))) (are : AreKept is_state a labels_of ks)
  where
    pub nothing_kept : are_any ks ≡ false → kept_inside_at is_state a ≡ Forest.none
    nothing_kept none = kept_are is_state a ks are ∙ ap forest (none_inside ks none)

    kept_loose : are_any ks ≡ true → is_loose (kept_inside_at is_state a) ≡ true
    kept_loose any =
        let t = some_inside ks any in ap is_loose (kept_are is_state a ks are ∙ t.is) ∙ t.label

    kept_beside : are_any ks ≡ true → list_beside (kept_at is_state a) (kept_inside_at is_state a)
        ≡ Some (list_of (flat_map value_in (kept_at is_state a)), kept_inside_at is_state a)
    kept_beside any =
        let t = some_inside ks any in
        let same = kept_are is_state a ks are ∙ t.is in
        ap (list_beside (kept_at is_state a)) same
        ∙ sym (ap (λ f. Some (list_of (flat_map value_in (kept_at is_state a)), f)) same)

-- ** what they tell

module _ (side : Side) (text : List ℕ) (is_state : Bool) (own others : Attributes) where
  abbrev shown : List Token
  shown = list_of (flat_map value_in (kept_at is_state own))

  abbrev beside : Option Held
  beside = list_beside (kept_at is_state others) (kept_inside_at is_state others)

  pub moved_not : is_moved side ≡ false → kept_moved side text is_state own others ≡ []
  moved_not not =
      ap (λ b. cond b (whole_items (is_loose (kept_inside_at is_state own)) text shown beside) []) not

  pub moved_none : (vs : List (Labelled (Option Kept))) → AreKept is_state own labels_of vs → are_any vs ≡ false
      → kept_moved side text is_state own others ≡ []
  moved_none vs are none =
      ap (λ f. cond (is_moved side) (whole_items (is_loose f) text shown beside) [])
      (nothing_kept is_state own vs are none) ∙ by (is_moved side) beside
    where
      by : (b : Bool) (h : Option Held) → cond b (whole_items false text shown h) [] ≡ []
      by false h = refl
      by true None = refl
      by true (Some h) = refl

  pub moved_alone : (ws : List (Labelled (Option Kept))) → AreKept is_state others labels_of ws → are_any ws ≡ false
      → kept_moved side text is_state own others ≡ []
  moved_alone ws are none =
      ap (λ f. cond (is_moved side) (whole_items (is_loose (kept_inside_at is_state own)) text shown
      (list_beside (kept_at is_state others) f)) []) (nothing_kept is_state others ws are none) ∙ by (is_moved side)
    where
      by : (b : Bool) → cond b (whole_items (is_loose (kept_inside_at is_state own)) text shown None) [] ≡ []
      by false = refl
      by true = refl

  pub moved_both : (vs ws : List (Labelled (Option Kept))) → AreKept is_state own labels_of vs
      → AreKept is_state others labels_of ws → is_moved side ≡ true → are_any vs ≡ true → are_any ws ≡ true
      → kept_moved side text is_state own others ≡ leaf_items Old text (others_shown vs) (Some (others_shown ws))
  moved_both vs ws are theirs moved any other =
      ap (λ b. cond b (whole_items (is_loose (kept_inside_at is_state own)) text shown beside) []) moved
      ∙ (λ k. whole_items (kept_loose is_state own vs are any k) text shown
      (kept_beside is_state others ws theirs other k))
      ∙ (λ k. leaf_items Old text (list_shown is_state own vs are k)
      (Some (list_shown is_state others ws theirs k)))

-- what comes behind it
pub behind_moved : (os more : List Members) (old page : Draft) → page ≡ with_members (objects os) old
    → with_members (objects more) page ≡ with_members (objects (os ++ more)) old
behind_moved os more old page is =
    both_added (objects os) (objects more) old page (with_members (objects more) page) is refl
    ∙ ap (λ ms. with_members ms old) (sym (map-append (λ o. ([], object_of o)) os more))
