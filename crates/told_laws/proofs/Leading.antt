-- Changes that are applied lead from the old leaves to the new ones.
use Rattle.std.proofs.Common.{◌≡◌, ◌++◌, ℕ, Bool, true, false, List, [], ◌∷◌, refl, sym, ap, ◌∙◌, subst}
use Rattle.std.specs.Prelude.{Option, None, Some, codes, cond, option_map}
use Rattle.std.specs.List.{flat_map}
use Rattle.json.specs.Token.{Token}
use Rattle.frame_diff.specs.Differences.{Change, changes, is_shown_same, leaf_change, path_of, side_changes, text_of}
use Rattle.frame_diff.specs.Forests.{Forest, Leaf, Path, Step, is_path, leaves, value_at}
use Rattle.frame_diff.specs.Members.{message_forest}
use Rattle.frame_diff.specs.Wholes.{opened}
use Rattle.frame_diff.specs.declared.side.Side.{Side}
use Rattle.frame_diff.specs.declared.side.Side.TheVariants.{Old, New, Moved}
use Rattle.frame_diff.proofs.Flat.{message_apart}
use Rattle.frame_diff.proofs.Messages.{messages_told}
use Rattle.frame_diff.proofs.Once.{StandOnce, leaves_once}
use Rattle.frame_diff.proofs.Steps.{path_same, text_same}
use Rattle.message_diff.specs.declared.snapshot.Compared.{Compared}
use Rattle.message_diff.specs.Changed.{changes_between, changes_or, forest_by, state_change, told_changes}
use Rattle.message_diff.specs.Compared.{is_state, parts_by}
use Rattle.message_diff.specs.Shots.{Shot}
use Rattle.frame_shown.specs.Plain.{plain}
use Rattle.frame_shown.specs.declared.form.Order.{Order}
use Rattle.told_laws.specs.Leading.{Follow, IsAgain, Lead, LeadThere, LeadsAt, Turn, behind}
use Rattle.told_laws.specs.Leading.{leaves_told, text_at, text_in, told_by}
use Rattle.told_laws.proofs.Orders.{order_alone}

abbrev pub Text : Type 0
Text = Option (List ℕ)

-- ** one after another

none_lead : (q : Path) (o : Text) → Lead q o o []
none_lead q o = record { old = tt; leads = refl }

both_lead : (q : Path) (o v w : Text) (a b : List Change) → Lead q o v a → Lead q v w b → Lead q o w (a ++ b)
both_lead q o v w [] b first more = subst (λ t. Lead q t w b) (sym first.leads) more
both_lead q o v w (c ∷ a) b first more =
    let later : Lead q (behind q o c) w (a ++ b) =
    both_lead q (behind q o c) v w a b (record { old = first.old.1; leads = first.leads }) more in
    record { old = (first.old.0, later.old); leads = later.leads }

-- ** changes at other paths

stays : (q : Path) (o : Text) (c : Change) → is_path (path_of c) q ≡ false → behind q o c ≡ o
stays q o (Change.came path value) other = ap (λ b. cond b (Some (text_of value)) o) other
stays q o (Change.went path value) other = ap (λ b. cond b None o) other
stays q o (Change.turned path was is) other = ap (λ b. cond b (Some (text_of is)) o) other

other_leads : (q : Path) (o : Text) (c : Change) → is_path (path_of c) q ≡ false → Lead q o o (c ∷ [])
other_leads q o c other = record { old = (λ same. absurd cc, tt); leads = stays q o c other }

leaf_off : (q : Path) (o : Text) (side : Side) (p : Path) (v : List Token) (beside : Option (List Token))
    → is_path p q ≡ false → Lead q o o (leaf_change side p v beside)
leaf_off q o Old p v None other = other_leads q o (Change.went p v) other
leaf_off q o Old p v (Some w) other = by (is_shown_same v w)
  where
    by : (same : Bool) → Lead q o o (cond same [] (Change.turned p v w ∷ []))
    by true = none_lead q o
    by false = other_leads q o (Change.turned p v w) other
leaf_off q o New p v None other = other_leads q o (Change.came p v) other
leaf_off q o New p v (Some w) other = none_lead q o
leaf_off q o Moved p v beside other = none_lead q o

-- a leaf at this path or at another one, before others
abbrev pub IsOff : Leaf → List Leaf → Path → Type 0
IsOff l ls q = (is_path l.0 q ≡ false) × (value_at ls q ≡ None)

off_rest : (l : Leaf) (ls : List Leaf) (q : Path) → value_at (l ∷ ls) q ≡ None → IsOff l ls q
off_rest l ls q none = by (is_path l.0 q) none
  where
    by : (b : Bool) → cond b (Some l.1) (value_at ls q) ≡ None → (b ≡ false) × (value_at ls q ≡ None)
    by true h = absurd cc
    by false h = (refl, h)

side_off : (q : Path) (o : Text) (side : Side) (ls others : List Leaf) → value_at ls q ≡ None
    → Lead q o o (side_changes side [] ls others)
side_off q o side [] others none = none_lead q o
side_off q o side (l ∷ ls) others none =
    let off : IsOff l ls q = off_rest l ls q none in
    both_lead q o o o (leaf_change side l.0 l.1 (value_at others l.0)) (side_changes side [] ls others)
    (leaf_off q o side l.0 l.1 (value_at others l.0) off.0) (side_off q o side ls others off.1)

-- ** what the old leaves tell

-- of the one at this path
turned_leads : (q p : Path) (v w : List Token) → is_path p q ≡ true
    → Lead q (Some (text_of v)) (Some (text_of w)) (leaf_change Old p v (Some w))
turned_leads q p v w here = by (is_shown_same v w) refl
  where
    by : (same : Bool) → is_shown_same v w ≡ same
        → Lead q (Some (text_of v)) (Some (text_of w)) (cond same [] (Change.turned p v w ∷ []))
    by true same = record { old = tt; leads = ap Some (text_same (text_of v) (text_of w) same) }
    by false same = record {
      old = (λ _. refl, tt);
      leads = ap (λ b. cond b (Some (text_of w)) (Some (text_of v))) here;
    }

old_leads : (q p : Path) (v : List Token) (beside : Option (List Token)) → is_path p q ≡ true
    → Lead q (Some (text_of v)) (option_map text_of beside) (leaf_change Old p v beside)
old_leads q p v None here = record {
  old = (λ _. refl, tt);
  leads = ap (λ b. cond b None (Some (text_of v))) here;
}
old_leads q p v (Some w) here = turned_leads q p v w here

module _ (q : Path) where
  olds_lead : (ls new : List Leaf) (v : List Token) → StandOnce ls → value_at ls q ≡ Some v
      → Lead q (Some (text_of v)) (text_in new q) (side_changes Old [] ls new)
  olds_lead [] new v once some = absurd cc
  olds_lead (l ∷ ls) new v once some = by (is_path l.0 q) refl some (olds_lead ls new v once.1)
    where
      first : List Change
      first = leaf_change Old l.0 l.1 (value_at new l.0)

      by : (b : Bool) → is_path l.0 q ≡ b → cond b (Some l.1) (value_at ls q) ≡ Some v
          → (value_at ls q ≡ Some v → Lead q (Some (text_of v)) (text_in new q) (side_changes Old [] ls new))
          → Lead q (Some (text_of v)) (text_in new q) (first ++ side_changes Old [] ls new)
      by true here h more =
          let path : l.0 ≡ q = path_same l.0 q here in
          both_lead q (Some (text_of v)) (text_in new q) (text_in new q) first (side_changes Old [] ls new)
          (subst (λ p. Lead q (Some (text_of v)) (text_in new p) first) path
          (subst (λ o. Lead q (option_map text_of o) (text_in new l.0) first) h
          (old_leads q l.0 l.1 (value_at new l.0) here)))
          (side_off q (text_in new q) Old ls new (ap (value_at ls) (sym path) ∙ once.0))
      by false other h more =
          both_lead q (Some (text_of v)) (Some (text_of v)) (text_in new q) first (side_changes Old [] ls new)
          (leaf_off q (Some (text_of v)) Old l.0 l.1 (value_at new l.0) other) (more h)

  -- ** what the new leaves tell

  -- nothing at a path that an old one has
  news_off : (o : Text) (ls old : List Leaf) (v : List Token) → value_at old q ≡ Some v
      → Lead q o o (side_changes New [] ls old)
  news_off o [] old v some = none_lead q o
  news_off o (l ∷ ls) old v some =
      both_lead q o o o (leaf_change New l.0 l.1 (value_at old l.0)) (side_changes New [] ls old)
      (by (is_path l.0 q) refl) (news_off o ls old v some)
    where
      by : (b : Bool) → is_path l.0 q ≡ b → Lead q o o (leaf_change New l.0 l.1 (value_at old l.0))
      by true here =
          subst (λ beside. Lead q o o (leaf_change New l.0 l.1 beside))
          (sym (ap (value_at old) (path_same l.0 q here) ∙ some)) (none_lead q o)
      by false other = leaf_off q o New l.0 l.1 (value_at old l.0) other

  came_leads : (p : Path) (v : List Token) → is_path p q ≡ true
      → Lead q None (Some (text_of v)) (Change.came p v ∷ [])
  came_leads p v here = record { old = (λ _. refl, tt); leads = ap (λ b. cond b (Some (text_of v)) None) here }

  news_lead : (ls old : List Leaf) → StandOnce ls → value_at old q ≡ None
      → Lead q None (text_in ls q) (side_changes New [] ls old)
  news_lead [] old once none = none_lead q None
  news_lead (l ∷ ls) old once none = by (is_path l.0 q) refl (news_lead ls old once.1 none)
    where
      first : List Change
      first = leaf_change New l.0 l.1 (value_at old l.0)

      by : (b : Bool) → is_path l.0 q ≡ b → Lead q None (text_in ls q) (side_changes New [] ls old)
          → Lead q None (option_map text_of (cond b (Some l.1) (value_at ls q)))
          (first ++ side_changes New [] ls old)
      by true here more =
          let path : l.0 ≡ q = path_same l.0 q here in
          both_lead q None (Some (text_of l.1)) (Some (text_of l.1)) first (side_changes New [] ls old)
          (subst (λ beside. Lead q None (Some (text_of l.1)) (leaf_change New l.0 l.1 beside))
          (sym (ap (value_at old) path ∙ none)) (came_leads l.0 l.1 here))
          (side_off q (Some (text_of l.1)) New ls old (ap (value_at ls) (sym path) ∙ once.0))
      by false other more =
          both_lead q None None (text_in ls q) first (side_changes New [] ls old)
          (leaf_off q None New l.0 l.1 (value_at old l.0) other) more

  -- ** both

  all_lead : (old new : List Leaf) → StandOnce old → StandOnce new
      → Lead q (text_in old q) (text_in new q) (changes old new)
  all_lead old new once other = by (value_at old q) refl
    where
      by : (value : Option (List Token)) → value_at old q ≡ value
          → Lead q (option_map text_of value) (text_in new q) (changes old new)
      by None none =
          both_lead q None None (text_in new q) (side_changes Old [] old new) (side_changes New [] new old)
          (side_off q None Old old new none) (news_lead new old other none)
      by (Some v) some =
          both_lead q (Some (text_of v)) (text_in new q) (text_in new q) (side_changes Old [] old new)
          (side_changes New [] new old) (olds_lead old new v once some) (news_off (text_in new q) new old v some)

-- ** a line

module _ (by : Compared) (q : Path) (other : is_path (Step.name (codes "state") ∷ []) q ≡ false) where
  between_leads : (was is : Shot) → Lead q (text_at by was q) (text_at by is q)
      (flat_map (opened (forest_by by was) (forest_by by is)) (changes_between by was is))
  between_leads was is =
      let old_apart = message_apart (is_state by) (plain was.order) (parts_by by was.text) in
      let new_apart = message_apart (is_state by) (plain is.order) (parts_by by is.text) in
      subst (Lead q (text_at by was q) (text_at by is q))
      (sym (messages_told.by_leaves (is_state by) (plain was.order) (plain is.order) (parts_by by was.text)
      (parts_by by is.text)))
      (all_lead q (leaves (forest_by by was)) (leaves (forest_by by is)) (leaves_once (forest_by by was) old_apart)
      (leaves_once (forest_by by is) new_apart))

  or_leads : (o v : Text) (f g : Forest) (was is : List ℕ) (cs : List Change)
      → Lead q o v (flat_map (opened f g) cs)
      → Lead q o v (flat_map (opened f g) (changes_or (state_change was is) cs))
  or_leads o v f g was is [] h =
      subst (λ t. Lead q o t (state_change was is ∷ [])) h.leads (other_leads q o (state_change was is) other)
  or_leads o v f g was is (c ∷ cs) h = h

  line_leads : (t : Turn) → Lead q (text_at by t.was q) (text_at by t.is q) (leaves_told by t)
  unfolding told_changes
  line_leads t =
      or_leads (text_at by t.was q) (text_at by t.is q) (forest_by by t.was) (forest_by by t.is) t.was.text t.is.text
      (changes_between by t.was t.is) (between_leads t.was t.is)

  -- ** one after another

  abbrev text_with : Bool → Order → List ℕ → Text
  text_with b order text = text_in (leaves (message_forest b (plain order) (parts_by by text))) q

  again : (was is : Shot) → IsAgain by was is → text_at by is q ≡ text_at by was q
  again was is h = order_is (is_state by) refl ∙ ap (text_with (is_state by) was.order) h.0
    where
      order_is : (b : Bool) → is_state by ≡ b
          → text_with (is_state by) is.order is.text ≡ text_with (is_state by) was.order is.text
      order_is true state =
          ap (λ b. text_with b is.order is.text) state
          ∙ ap (λ ls. text_in ls q) (order_alone (plain was.order) is.order (parts_by by is.text))
          ∙ ap (λ b. text_with b was.order is.text) (sym state)
      order_is false state = ap (λ order. text_with (is_state by) order is.text) (h.1 state)

  lead_from : (shot : Shot) (ts : List Turn) → Follow by shot ts → LeadsAt by q shot ts
  lead_from shot [] follow last same =
      subst (λ v. Lead q (text_at by shot q) v []) (sym (again shot last same)) (none_lead q (text_at by shot q))
  lead_from shot (t ∷ ts) follow last same =
      both_lead q (text_at by shot q) (text_at by t.is q) (text_at by last q) (leaves_told by t) (told_by by ts)
      (subst (λ v. Lead q v (text_at by t.is q) (leaves_told by t)) (again shot t.was follow.0) (line_leads t))
      (lead_from t.is ts follow.1 last same)

pub lead_there : LeadThere
lead_there by shot ts follow q other = lead_from by q other shot ts follow
