-- Lists whose values have labels, or places, beside each other.
use Rattle.std.proofs.Common.{◌≡◌, ℕ, zero, suc, ◌+◌, ◌<◌, Bool, true, false, List, [], ◌∷◌, ◌++◌, refl, subst}
use Rattle.std.proofs.Common.{sym, ap, ◌∙◌, arith, drop, get_or, length, map}
use Rattle.std.specs.Prelude.{IfSome, Option, Some, None, ◌==◌, ◌&&◌, cond, option_and_then, option_map, slice_get}
use Rattle.std.specs.List.{AllByRecursion, flat_map}
use Rattle.std.proofs.lemmas.Bool.{ne_eqb}
use Rattle.std.proofs.lemmas.List.{drop_more, map-append}
use Rattle.nla_wire.specs.Items.{items}
use Rattle.link_info.specs.Tables.{frames_in}
use Rattle.shown.specs.Drafts.{Draft, Members, object_of, with_members}
use Rattle.frame_shown.specs.Items.{objects}
use Rattle.frame_shown.proofs.Items.{on_next}
use Rattle.frame_diff.specs.Differences.{inside_in}
use Rattle.frame_diff.specs.Forests.{Forest, Held, Member, Step, comes, find, forest, is_number, is_same_label}
use Rattle.frame_diff.specs.Forests.{is_step, is_text, runs_inside}
use Rattle.frame_diff.specs.Groups.{group_at, group_held, labelled_inside, is_entries, numbers_at, picked_by}
use Rattle.frame_diff.specs.Groups.{picked_values, value_at}
use Rattle.frame_diff.specs.Items.{items_told}
use Rattle.frame_diff.specs.Keyed.{AreIn, AreKept, AreLabelled, FindsAt, IsIn, StandsFor, label_items, labels_now}
use Rattle.frame_diff.specs.Keyed.{value_of, values_now}
use Rattle.frame_diff.specs.Keys.{is_key, key_at, key_name, number_in}
use Rattle.frame_diff.specs.Labels.{at_step, count, keyed, label_step, labelled, labels_behind, labels_of, place_of}
use Rattle.frame_diff.specs.Members.{are_plain, inside_of, numbers_by, placed, places}
use Rattle.frame_diff.specs.Values.{kept_held, kept_inside_at, kept_numbers}
use Rattle.frame_diff.specs.Walked.{AreBeside, HasNames, Holding, Showing, StandBeside, held_items, reading_at}
use Rattle.frame_diff.specs.Walked.{step_items}
use Rattle.frame_diff.specs.declared.kept.Kept.{Kept}
use Rattle.frame_diff.specs.declared.keyed.Labelled.{Labelled}
use Rattle.frame_diff.specs.declared.keys.Key.{Key}
use Rattle.frame_diff.specs.declared.keys.Key.TheVariants as Keys
use Rattle.frame_diff.specs.declared.labels.Label.{Label}
use Rattle.frame_diff.specs.declared.side.Side.{Side}
use Rattle.frame_diff.specs.declared.walk.Attribute.{Attribute}
use Rattle.frame_diff.specs.declared.walk.Attributes.{Attributes}
use Rattle.frame_diff.proofs.Apart.{find_none, no_runs}
use Rattle.frame_diff.proofs.Grouped.{group_plain, inside_here, inside_none, picked_none}
use Rattle.frame_diff.proofs.Inside.{AreAll, AreAt, at_weaker, forest_all, held_rest, none_at, same_told}
use Rattle.frame_diff.proofs.Steps.{label_is, label_same, number_is, number_same, text_is}
use Rattle.frame_diff.proofs.Walked.{last_further}
use Rattle.link_info.specs.declared.place.Place.TheVariants as Places
use Rattle.link_vlans.specs.declared.run.Run.{Run}
use Rattle.frame_shown.specs.declared.form.List.{List as Shape}
use Rattle.frame_shown.specs.declared.form.List.TheVariants as Shapes
use Rattle.frame_diff.specs.Groups.{group_inside, runs_at}
use Rattle.frame_diff.specs.Members.{runs_by, runs_or}
use Rattle.frame_diff.specs.Members.{flat_inside, is_own_key}
use Rattle.frame_diff.proofs.Grouped.{flat_lacks, flat_runless}
use Rattle.frame_diff.specs.Items.{runs_items}

-- ** steps

abbrev IsPlace : Step → Type 0
IsPlace s = (n : ℕ) × (s ≡ Step.place n)

abbrev IsLabel : Key → Step → Type 0
IsLabel key s = (l : Label) × (s ≡ label_step key l)

placed_at : (n : ℕ) (hs : List (Option Held)) → AreAt IsPlace (placed n hs)
placed_at n [] = tt
placed_at n (None ∷ hs) = placed_at (n + 1) hs
placed_at n (Some h ∷ hs) = ((n, refl), placed_at (n + 1) hs)

labelled_at : (key : Key) (ls : List Label) (hs : List (Option Held)) → AreAt (IsLabel key) (labelled key ls hs)
labelled_at key [] hs = tt
labelled_at key (l ∷ ls) [] = tt
labelled_at key (l ∷ ls) (None ∷ hs) = labelled_at key ls hs
labelled_at key (l ∷ ls) (Some h ∷ hs) = ((l, refl), labelled_at key ls hs)

places_lack : (s : Step) (ms : List Member) → ((n : ℕ) → is_step (Step.place n) s ≡ false) → AreAt IsPlace ms
    → comes s ms ≡ false
places_lack s ms none all = none_at s ms
    (at_weaker IsPlace (λ t. is_step t s ≡ false) ms (λ t is. ap (λ x. is_step x s) is.1 ∙ none is.0) all)

labels_lack : (key : Key) (s : Step) (ms : List Member) → ((l : Label) → is_step (label_step key l) s ≡ false)
    → AreAt (IsLabel key) ms → comes s ms ≡ false
labels_lack key s ms none all = none_at s ms
    (at_weaker (IsLabel key) (λ t. is_step t s ≡ false) ms (λ t is. ap (λ x. is_step x s) is.1 ∙ none is.0) all)

-- the numbers of two keys have two names
names_apart : (key other : Key) → is_key key (Some other) ≡ false → is_text (key_name other) (key_name key) ≡ false
names_apart Keys.Msti Keys.Msti is = absurd cc
names_apart Keys.Msti Keys.From is = refl
names_apart Keys.Msti Keys.Vf is = refl
names_apart Keys.Msti Keys.Number is = refl
names_apart Keys.From Keys.Msti is = refl
names_apart Keys.From Keys.From is = absurd cc
names_apart Keys.From Keys.Vf is = refl
names_apart Keys.From Keys.Number is = refl
names_apart Keys.Vf Keys.Msti is = refl
names_apart Keys.Vf Keys.From is = refl
names_apart Keys.Vf Keys.Vf is = absurd cc
names_apart Keys.Vf Keys.Number is = refl
names_apart Keys.Number Keys.Msti is = refl
names_apart Keys.Number Keys.From is = refl
names_apart Keys.Number Keys.Vf is = refl
names_apart Keys.Number Keys.Number is = absurd cc

no_place : (key : Key) (ns : List (Option ℕ)) (hs : List (Option Held)) (n : ℕ)
    → find (Step.place n) (keyed key ns hs) ≡ None
no_place key ns hs n =
    find_none (Step.place n) (labelled key (labels_of ns) hs)
    (labels_lack key (Step.place n) (labelled key (labels_of ns) hs) (λ l. refl) (labelled_at key (labels_of ns) hs))

no_label : (key : Key) (other : Option Key) (ns : List (Option ℕ)) (hs : List (Option Held)) (l : Label)
    → is_key key other ≡ false → find (label_step key l) (inside_of other ns hs) ≡ None
no_label key None ns hs l is =
    find_none (label_step key l) (placed 0 hs)
    (places_lack (label_step key l) (placed 0 hs) (λ n. refl) (placed_at 0 hs))
no_label key (Some other) ns hs l is =
    find_none (label_step key l) (labelled other (labels_of ns) hs)
    (labels_lack other (label_step key l) (labelled other (labels_of ns) hs)
    (λ m. ap (λ b. b && is_same_label m l) (names_apart key other is)) (labelled_at other (labels_of ns) hs))

-- whatever steps they are at

any_at : (ms : List Member) → AreAt (λ s. Unit {0}) ms
any_at [] = tt
any_at (m ∷ ms) = (tt, any_at ms)

any_inside : (key : Option Key) (ns : List (Option ℕ)) (hs : List (Option Held))
    → AreAll (λ s. Unit {0}) (inside_of key ns hs)
any_inside None ns hs = forest_all (λ s. Unit {0}) (placed 0 hs) (any_at (placed 0 hs))
any_inside (Some key) ns hs =
    let ms = labelled key (labels_of ns) hs in forest_all (λ s. Unit {0}) ms (any_at ms)

-- beside forests in which the same is found
all_same : (side : Side) (text : List ℕ) (f g h : Forest) → ((s : Step) → find s g ≡ find s h)
    → runs_inside g ≡ runs_inside h → items_told side text f g ≡ items_told side text f h
all_same side text Forest.none g h found runs = refl
all_same side text Forest.passed g h found runs = refl
all_same side text (Forest.vlans rs) g h found runs = ap (runs_items side text rs) runs
all_same side text (Forest.texts vs) g h found runs = refl
all_same side text (Forest.tree s v i rest) g h found runs = λ k.
    step_items side text s (v, i) (found s k) ++ all_same side text rest g h found runs k

-- ** another list

empty_inside : (key : Option Key) → inside_of key [] [] ≡ Forest.none
empty_inside None = refl
empty_inside (Some key) = refl

-- one without values stands for it where it is shown as this one
pub none_stands : (own others a : Attributes) → a.list ≡ own.list → a.around.now ≡ own.around.now
    → StandsFor own others a
none_stands own others a list around = (λ same. ap is_entries list, λ beside. (sym around, beside.1))

pub same_stands : (own others : Attributes) → StandsFor own others others
same_stands own others = (λ same. same, λ beside. beside)

module _ (nest : Showing) (inner : Holding) (is_state : Bool) where
  abbrev values : Attributes → List (Option Held)
  values a = group_at nest inner is_state a

  abbrev inside : Attributes → Forest
  inside a = labelled_inside nest inner is_state a

  abbrev numbers : Attributes → List (Option ℕ)
  numbers a = numbers_at nest inner is_state a

  nothing_inside : (a : Attributes) → items a.bytes.now ≡ [] → inside a ≡ Forest.none
  nothing_inside a none =
      let key = key_at a.number a.list in
      let r = reading_at nest inner is_state a.around.now in
      ap (λ xs. inside_of key (numbers_by (number_in a.around.now key a.list) (picked_by r a.number a.list)
      (frames_in xs)) (picked_values r a.number a.list (frames_in xs))) none
      ∙ ap (inside_of key []) (picked_none r a.number a.list)
      ∙ empty_inside key

  pub no_placed : (key : Key) (a others : Attributes) → key_at others.number others.list ≡ Some key
      → items a.bytes.now ≡ [] → (n : ℕ) → find (Step.place n) (inside a) ≡ find (Step.place n) (inside others)
  no_placed key a others is none n =
      ap (find (Step.place n)) (nothing_inside a none)
      ∙ sym (ap (λ k. find (Step.place n) (inside_of k (numbers others) (values others))) is
      ∙ no_place key (numbers others) (values others) n)

  pub no_labelled : (key : Key) (a others : Attributes) → is_key key (key_at others.number others.list) ≡ false
      → items a.bytes.now ≡ [] → (l : Label)
      → find (label_step key l) (inside a) ≡ find (label_step key l) (inside others)
  no_labelled key a others is none l =
      ap (find (label_step key l)) (nothing_inside a none)
      ∙ sym (no_label key (key_at others.number others.list) (numbers others) (values others) l is)

  -- ** beside it

  abbrev held : Attributes → Held
  held a = group_held nest inner is_state a

  abbrev whole : Attributes → Forest
  whole a = group_inside nest inner is_state a

  no_runs_of : (picks : Option ℕ) (list : Shape) → runs_by picks list [] ≡ None
  no_runs_of (Some n) (Shapes.Of Places.BridgeSpec) = refl
  no_runs_of _ _ = refl

  pub nothing_whole : (a : Attributes) → items a.bytes.now ≡ [] → whole a ≡ Forest.none
  nothing_whole a none =
      ap (λ xs. runs_or (runs_by a.number a.list (frames_in xs)) (inside a)) none
      ∙ ap (λ o. runs_or o (inside a)) (no_runs_of a.number a.list)
      ∙ nothing_inside a none

  flat_beside : (other : Attributes) (beside : Option Attributes) → beside ≡ Some other
      → are_plain (values other) ≡ true
      → inside_in (option_map held beside) ≡ flat_inside (is_own_key other.number other.list) (values other)
  flat_beside other beside is plain =
      ap (λ b. inside_in (option_map held b)) is
      ∙ inside_none (is_own_key other.number other.list) (values other) (whole other) plain

  -- what is found in one without values is what is found in one value
  pub plain_beside : (other a : Attributes) (beside : Option Attributes) → beside ≡ Some other
      → are_plain (values other) ≡ true → items a.bytes.now ≡ []
      → (s : Step) → find s (whole a) ≡ find s (inside_in (option_map held beside))
  plain_beside other a beside is plain none s =
      ap (find s) (nothing_whole a none)
      ∙ sym (ap (find s) (flat_beside other beside is plain)
      ∙ flat_lacks (is_own_key other.number other.list) (values other) s)

  pub plain_runless : (other a : Attributes) (beside : Option Attributes) → beside ≡ Some other
      → are_plain (values other) ≡ true → items a.bytes.now ≡ []
      → runs_inside (whole a) ≡ runs_inside (inside_in (option_map held beside))
  plain_runless other a beside is plain none =
      ap runs_inside (nothing_whole a none)
      ∙ sym (ap runs_inside (flat_beside other beside is plain)
      ∙ flat_runless (is_own_key other.number other.list) (values other))

  -- and there is none
  pub none_beside : (a : Attributes) → items a.bytes.now ≡ [] → (s : Step)
      → find s (whole a) ≡ None
  none_beside a none s = ap (find s) (nothing_whole a none)

  -- ** beside a list of VLANs

  -- one that is none of these is as it was
  pub labelled_whole : (a : Attributes) → runs_at a ≡ None → whole a ≡ inside a
  labelled_whole a none = ap (λ o. runs_or o (inside a)) none

  inside_runless : (key : Option Key) (ns : List (Option ℕ)) (hs : List (Option Held))
      → runs_inside (inside_of key ns hs) ≡ []
  inside_runless None ns hs = no_runs (placed 0 hs)
  inside_runless (Some key) ns hs = no_runs (labelled key (labels_of ns) hs)

  -- and holds none
  pub no_runs_beside : (a : Attributes) → runs_at a ≡ None → runs_inside (whole a) ≡ []
  no_runs_beside a none =
      ap runs_inside (labelled_whole a none)
      ∙ inside_runless (key_at a.number a.list) (numbers a) (values a)

  -- and one without values stands for one of VLANs
  pub runs_stand : (a others : Attributes) (rs : List Run) → runs_at others ≡ Some rs → items a.bytes.now ≡ []
      → (s : Step) → find s (inside a) ≡ find s (whole others)
  runs_stand a others rs is none s =
      ap (find s) (nothing_inside a none) ∙ sym (ap (λ o. find s (runs_or o (inside others))) is)

  module _ (side : Side) (text : List ℕ) where
    places_are : (a : Attributes) → key_at a.number a.list ≡ None → inside a ≡ places (values a)
    places_are a is = ap (λ k. inside_of k (numbers a) (values a)) is

    pub place_told : (own others a : Attributes) → key_at own.number own.list ≡ None
        → key_at a.number a.list ≡ None → FindsAt Step.place others a
        → items_told side text (places (values own)) (places (values a))
        ≡ items_told side text (inside own) (inside others)
    place_told own others a is same found =
        (λ k. items_told side text (sym (places_are own is) k) (sym (places_are a same) k))
        ∙ same_told IsPlace side text (inside own) (inside a) (inside others)
        (subst (AreAll IsPlace) (sym (places_are own is))
        (forest_all IsPlace (placed 0 (values own)) (placed_at 0 (values own))))
        (λ s of. ap (λ t. find t (inside a)) of.1 ∙ found nest inner is_state of.0
        ∙ ap (λ t. find t (inside others)) (sym of.1))

    pub key_told : (key : Key) (own others a : Attributes) → key_at own.number own.list ≡ Some key
        → FindsAt (label_step key) others a
        → items_told side text (inside own) (inside a) ≡ items_told side text (inside own) (inside others)
    key_told key own others a is found =
        let labels = labelled key (labels_of (numbers own)) (values own) in
        same_told (IsLabel key) side text (inside own) (inside a) (inside others)
        (subst (AreAll (IsLabel key)) (sym (ap (λ k. inside_of k (numbers own) (values own)) is))
        (forest_all (IsLabel key) labels (labelled_at key (labels_of (numbers own)) (values own))))
        (λ s of. ap (λ t. find t (inside a)) of.1 ∙ found nest inner is_state of.0
        ∙ ap (λ t. find t (inside others)) (sym of.1))

    -- a list that is none of VLANs
    pub labels_told : (own others a : Attributes) → runs_at own ≡ None
        → ((s : Step) → find s (inside a) ≡ find s (whole others))
        → items_told side text (inside own) (inside a) ≡ items_told side text (whole own) (whole others)
    labels_told own others a none found =
        same_told (λ s. Unit {0}) side text (inside own) (inside a) (whole others)
        (any_inside (key_at own.number own.list) (numbers own) (values own)) (λ s any. found s)
        ∙ ap (λ f. items_told side text f (whole others)) (sym (labelled_whole own none))

    -- of which some are objects or lists
    pub values_told : (own others : Attributes) (beside : Option Attributes) → are_plain (values own) ≡ false
        → ((s : Step) → find s (whole others) ≡ find s (inside_in (option_map held beside)))
        → runs_inside (whole others) ≡ runs_inside (inside_in (option_map held beside))
        → items_told side text (whole own) (whole others)
        ≡ held_items side text (held own) (option_map held beside)
    values_told own others beside some found runs =
        all_same side text (whole own) (whole others) (inside_in (option_map held beside)) found runs
        ∙ ap (λ f. items_told side text f (inside_in (option_map held beside)))
        (sym (inside_here (is_own_key own.number own.list) (values own) (whole own) some))
        ∙ sym (held_rest side text (held own) (option_map held beside) (group_plain nest inner is_state own ∙ some))

-- ** no two values have one label

abbrev pub AreDistinct : List Label → Type 0
AreDistinct [] = Unit {0}
AreDistinct (l ∷ ls) = AllByRecursion (λ m. is_same_label m l ≡ false) ls × AreDistinct ls

counted : (n : Option ℕ) (before : List (Option ℕ)) → count n before < count n (n ∷ before)
counted n before = subst (λ b. count n before < cond b 1 0 + count n before) (sym (number_is n)) (omega arith)

-- of values behind more with a number
more_apart : (n : Option ℕ) (again : ℕ) (before ns : List (Option ℕ)) → again < count n before
    → AllByRecursion (λ m. is_same_label m (record { number = n; again = again }) ≡ false) (labels_behind before ns)
more_apart n again before [] less = tt
more_apart n again before (m ∷ ns) less =
    (one (is_number m n) refl, more_apart n again (m ∷ before) ns (further (cond (is_number n m) 1 0)))
  where
    further : (k : ℕ) → again < k + count n before
    further k = omega (arith, less)

    one : (b : Bool) → is_number m n ≡ b → (b && (count m before == again)) ≡ false
    one true is =
        let same : count m before ≡ count n before = ap (λ k. count k before) (number_same m n is) in
        ne_eqb (count m before) again (λ e. omega (arith, less, same, e))
    one false is = refl

labels_apart : (before ns : List (Option ℕ)) → AreDistinct (labels_behind before ns)
labels_apart before [] = tt
labels_apart before (n ∷ ns) =
    (more_apart n (count n before) (n ∷ before) ns (counted n before), labels_apart (n ∷ before) ns)

same_turned : (l m : Label) → is_same_label l m ≡ is_same_label m l
same_turned l m = by (is_same_label l m) (is_same_label m l) refl refl
  where
    same : is_same_label l m ≡ true → is_same_label m l ≡ true
    same h = subst (λ x. is_same_label x l ≡ true) (label_same l m h) (label_is l)

    by : (a b : Bool) → is_same_label l m ≡ a → is_same_label m l ≡ b → a ≡ b
    by true true h k = refl
    by false false h k = refl
    by true false h k = sym (same h) ∙ k
    by false true h k = sym h ∙ subst (λ x. is_same_label x m ≡ true) (label_same m l k) (label_is m)

-- ** values at their labels

module _ {X : Type 0} (key : Key) (value : X → Option Held) where
  abbrev pub members : List (Labelled X) → List Member
  members vs = labelled key (labels_now vs) (map value (values_now vs))

  members_lack : (l : Label) (vs : List (Labelled X))
      → AllByRecursion (λ m. is_same_label m l ≡ false) (labels_now vs) → comes (label_step key l) (members vs) ≡ false
  members_lack l [] apart = refl
  members_lack l (v ∷ vs) apart = by (value v.value) (members_lack l vs apart.1)
    where
      and_false : (b : Bool) → (b && false) ≡ false
      and_false true = refl
      and_false false = refl

      by : (h : Option Held) → comes (label_step key l) (members vs) ≡ false
          → comes (label_step key l) (at_step (label_step key v.label) h ++ members vs) ≡ false
      by None later = later
      by (Some held) later =
          (λ k. cond (is_text (key_name key) (key_name key) && apart.0 k) true (comes (label_step key l) (members vs)))
          ∙ ap (λ b. cond b true (comes (label_step key l) (members vs)))
          (and_false (is_text (key_name key) (key_name key)))
          ∙ later

  value_later : (v : Labelled X) (vs : List (Labelled X)) (place : Option ℕ)
      → option_and_then (λ n. slice_get vs n) place
      ≡ option_and_then (λ n. slice_get (v ∷ vs) n) (option_map suc place)
  value_later v vs None = refl
  value_later v vs (Some n) = refl

  first_found : (l m : Label) (h : Option Held) (ms : List Member) → comes (label_step key m) ms ≡ false
      → find (label_step key l) (forest (at_step (label_step key m) h ++ ms))
      ≡ cond (is_same_label l m) h (find (label_step key l) (forest ms))
  first_found l m None ms none = by (is_same_label l m) refl
    where
      by : (b : Bool) → is_same_label l m ≡ b
          → find (label_step key l) (forest ms) ≡ cond b None (find (label_step key l) (forest ms))
      by true is =
          ap (λ n. find (label_step key n) (forest ms)) (label_same l m is) ∙ find_none (label_step key m) ms none
      by false is = refl
  first_found l m (Some held) ms none =
      (λ k. find (label_step key l) (cond (none k) (forest ms)
      (Forest.tree (label_step key m) held.0 held.1 (forest ms))))
      ∙ (λ k. cond (text_is (key_name key) k && same_turned m l k) (Some held) (find (label_step key l) (forest ms)))

  label_found : (l : Label) (vs : List (Labelled X)) → AreDistinct (labels_now vs)
      → find (label_step key l) (forest (members vs)) ≡ option_and_then value (value_of l vs)
  label_found l [] apart = refl
  label_found l (v ∷ vs) apart =
      first_found l v.label (value v.value) (members vs) (members_lack v.label vs apart.0)
      ∙ by (is_same_label l v.label) (label_found l vs apart.1)
    where
      by : (b : Bool) → find (label_step key l) (forest (members vs)) ≡ option_and_then value (value_of l vs)
          → cond b (value v.value) (find (label_step key l) (forest (members vs)))
          ≡ option_and_then value (option_map (λ (w : Labelled X). w.value)
          (option_and_then (λ n. slice_get (v ∷ vs) n) (cond b (Some 0) (option_map suc (place_of l (labels_now vs))))))
      by true later = refl
      by false later = later
          ∙ ap (λ o. option_and_then value (option_map (λ (w : Labelled X). w.value) o))
          (value_later v vs (place_of l (labels_now vs)))

  module _ (side : Side) (text : List ℕ) where
    -- what one tells beside another one
    abbrev pub one_told : Labelled X → Option Held → List Members
    one_told v beside = label_items side text (label_step key v.label) (value v.value) beside

    each_told : (vs : List (Labelled X)) (g : Forest) → AreDistinct (labels_now vs)
        → items_told side text (forest (members vs)) g
        ≡ flat_map (λ v. one_told v (find (label_step key v.label) g)) vs
    each_told [] g apart = refl
    each_told (v ∷ vs) g apart = by (value v.value) (each_told vs g apart.1)
      where
        s : Step
        s = label_step key v.label

        rest : List Members
        rest = flat_map (λ v. one_told v (find (label_step key v.label) g)) vs

        by : (h : Option Held) → items_told side text (forest (members vs)) g ≡ rest
            → items_told side text (forest (at_step s h ++ members vs)) g
            ≡ label_items side text s h (find s g) ++ rest
        by None later = later
        by (Some held) later =
            last_further side text g (s, held) (members vs)
            ∙ (λ k. cond (members_lack v.label vs apart.0 k) [] (step_items side text s held (find s g)) ++ later k)

    found_told : (vs ws : List (Labelled X)) → AreDistinct (labels_now ws)
        → flat_map (λ v. one_told v (find (label_step key v.label) (forest (members ws)))) vs
        ≡ flat_map (λ v. one_told v (option_and_then value (value_of v.label ws))) vs
    found_told [] ws apart = refl
    found_told (v ∷ vs) ws apart = (λ k. one_told v (label_found v.label ws apart k) ++ found_told vs ws apart k)

    -- of all of them, each beside the one with its label
    abbrev pub all_told : List (Labelled X) → List (Labelled X) → List Members
    all_told ws vs = flat_map (λ v. one_told v (option_and_then value (value_of v.label ws))) vs

    pub forest_told : (vs ws : List (Labelled X)) → AreDistinct (labels_now vs) → AreDistinct (labels_now ws)
        → items_told side text (forest (members vs)) (forest (members ws)) ≡ all_told ws vs
    forest_told vs ws apart others = each_told vs (forest (members ws)) apart ∙ found_told vs ws others

    -- one further
    pub one_further : (vs ws : List (Labelled X)) (i : ℕ) (v d : Labelled X) (beside : Option X)
        (page new all : Draft) → i < length vs → v ≡ get_or vs i d → beside ≡ value_of v.label ws
        → new ≡ with_members (objects (one_told v (option_and_then value beside))) page
        → with_members (objects (all_told ws (drop i vs))) page ≡ all
        → with_members (objects (all_told ws (drop (i + 1) vs))) new ≡ all
    one_further vs ws i v d beside page new all within here found is was =
        let rest = drop (i + 1) vs in
        let first = one_told v (option_and_then value (value_of v.label ws)) in
        on_next (objects (all_told ws (drop i vs))) (objects first) (objects (all_told ws rest)) page new all
        (ap (λ l. objects (all_told ws l)) (drop_more vs i d within ∙ ap (λ x. x ∷ rest) (sym here))
        ∙ map-append (λ o. ([], object_of o)) first (all_told ws rest))
        was
        (is ∙ ap (λ b. with_members (objects (one_told v (option_and_then value b))) page) found)

pub distinct_of : (ns : List (Option ℕ)) (ls : List Label) → ls ≡ labels_of ns → AreDistinct ls
distinct_of ns ls is = subst AreDistinct (sym is) (labels_apart [] ns)

-- ** of lists of attributes

module _ (nest : Showing) (inner : Holding) (is_state : Bool) where
  abbrev pub one_held : Attribute → Option Held
  one_held a = Some (value_at nest inner is_state a)

  pub distinct_now : (a : Attributes) (vs : List (Labelled Attribute)) → AreLabelled is_state a labels_of vs
      → AreDistinct (labels_now vs)
  distinct_now a vs are = distinct_of (numbers nest inner is_state a) (labels_now vs) (are.1 nest inner).0

  some_map : (beside : Option Attribute)
      → option_map (value_at nest inner is_state) beside ≡ option_and_then one_held beside
  some_map None = refl
  some_map (Some a) = refl

  module _ (key : Key) where
    members_are : (a : Attributes) (vs : List (Labelled Attribute)) → key_at a.number a.list ≡ Some key
        → AreLabelled is_state a labels_of vs → inside nest inner is_state a ≡ forest (members key one_held vs)
    members_are a vs is are =
        ap (λ k. inside_of k (numbers nest inner is_state a) (values nest inner is_state a)) is
        ∙ (λ k. forest (labelled key (sym (are.1 nest inner).0 k) (sym (are.1 nest inner).1 k)))

    module _ (side : Side) (text : List ℕ) where
      pub keyed_told : (own others : Attributes) (vs ws : List (Labelled Attribute))
          → key_at own.number own.list ≡ Some key
          → key_at others.number others.list ≡ Some key → AreLabelled is_state own labels_of vs
          → AreLabelled is_state others labels_of ws
          → items_told side text (inside nest inner is_state own) (inside nest inner is_state others)
          ≡ all_told key one_held side text ws vs
      keyed_told own others vs ws is same are found =
          (λ k. items_told side text (members_are own vs is are k) (members_are others ws same found k))
          ∙ forest_told key one_held side text vs ws (distinct_now own vs are) (distinct_now others ws found)

      pub keyed_next : (vs ws : List (Labelled Attribute)) (i : ℕ) (v d : Labelled Attribute)
          (beside : Option Attribute)
          (page new all : Draft) → i < length vs → v ≡ get_or vs i d → beside ≡ value_of v.label ws
          → new ≡ with_members (objects (step_items side text (label_step key v.label)
          (value_at nest inner is_state v.value) (option_map (value_at nest inner is_state) beside))) page
          → with_members (objects (all_told key one_held side text ws (drop i vs))) page ≡ all
          → with_members (objects (all_told key one_held side text ws (drop (i + 1) vs))) new ≡ all
      keyed_next vs ws i v d beside page new all within here found is was =
          one_further key one_held side text vs ws i v d beside page new all within here found
          (is ∙ ap (λ b. with_members (objects (one_told key one_held side text v b)) page) (some_map beside)) was

-- ** those that are kept

pub kept_are : (is_state : Bool) (a : Attributes) (vs : List (Labelled (Option Kept)))
    → AreKept is_state a labels_of vs → kept_inside_at is_state a ≡ forest (members Keys.Number kept_held vs)
kept_are is_state a vs are = λ k. forest (labelled Keys.Number (sym are.0 k) (sym are.1 k))

pub kept_apart : (is_state : Bool) (a : Attributes) (vs : List (Labelled (Option Kept)))
    → AreKept is_state a labels_of vs → AreDistinct (labels_now vs)
kept_apart is_state a vs are = distinct_of (kept_numbers is_state a) (labels_now vs) are.0

-- ** the value at a place

module _ {X : Type 0} where
  lacks_at : (l : Label) (vs : List (Labelled X)) (i : ℕ) (d : Labelled X)
      → AllByRecursion (λ m. is_same_label m l ≡ false) (labels_now vs) → i < length vs
      → is_same_label (get_or vs i d).label l ≡ false
  lacks_at l [] i d apart less = absurd (omega (arith, less))
  lacks_at l (v ∷ vs) zero d apart less = apart.0
  lacks_at l (v ∷ vs) (suc i) d apart less = lacks_at l vs i d apart.1 (omega (arith, less))

  place_here : (vs : List (Labelled X)) (i : ℕ) (d : Labelled X) → AreDistinct (labels_now vs) → i < length vs
      → place_of (get_or vs i d).label (labels_now vs) ≡ Some i
  place_here [] i d apart less = absurd (omega (arith, less))
  place_here (v ∷ vs) zero d apart less =
      ap (λ b. cond b (Some 0) (option_map suc (place_of v.label (labels_now vs)))) (label_is v.label)
  place_here (v ∷ vs) (suc i) d apart less =
      let l = (get_or vs i d).label in
      ap (λ b. cond b (Some 0) (option_map suc (place_of l (labels_now vs))))
      (lacks_at v.label vs i d apart.0 (omega (arith, less)))
      ∙ ap (option_map suc) (place_here vs i d apart.1 (omega (arith, less)))

  pub label_place : (vs : List (Labelled X)) (i : ℕ) (v d : Labelled X) → AreDistinct (labels_now vs) → i < length vs
      → v ≡ get_or vs i d → place_of v.label (labels_now vs) ≡ Some i
  label_place vs i v d apart less here =
      ap (λ (w : Labelled X). place_of w.label (labels_now vs)) here ∙ place_here vs i d apart less

all_in : (list : Attributes) (vs : List (Labelled Attribute)) (i : ℕ) (d : Labelled Attribute) → AreIn list vs
    → i < length vs → IsIn list (get_or vs i d).value
all_in list [] i d of less = absurd (omega (arith, less))
all_in list (v ∷ vs) zero d of less = of.0
all_in list (v ∷ vs) (suc i) d of less = all_in list vs i d of.1 (omega (arith, less))

pub one_in : (list : Attributes) (vs : List (Labelled Attribute)) (i : ℕ) (v d : Labelled Attribute) → AreIn list vs
    → i < length vs → v ≡ get_or vs i d → IsIn list v.value
one_in list vs i v d of less here =
    subst (λ (w : Labelled Attribute). IsIn list w.value) (sym here) (all_in list vs i d of less)

-- and the one of a label
place_in : (list : Attributes) (vs : List (Labelled Attribute)) → AreIn list vs → (place : Option ℕ)
    → IfSome (option_map (λ (v : Labelled Attribute). v.value) (option_and_then (λ n. slice_get vs n) place))
    (IsIn list)
place_in list vs of None = tt
place_in list [] of (Some n) = tt
place_in list (v ∷ vs) of (Some zero) = of.0
place_in list (v ∷ vs) of (Some (suc n)) = place_in list vs of.1 (Some n)

pub found_in : (list : Attributes) (vs : List (Labelled Attribute)) (l : Label) (beside : Option Attribute)
    → beside ≡ value_of l vs → AreIn list vs → IfSome beside (IsIn list)
found_in list vs l beside is of =
    subst (λ b. IfSome b (IsIn list)) (sym is) (place_in list vs of (place_of l (labels_now vs)))

pub beside_entries : (own others : Attributes) (v : Attribute) (beside : Option Attribute) → IsIn own v
    → IfSome beside (IsIn others) → is_entries others.list ≡ is_entries own.list
    → IfSome beside (λ a. is_entries a.list ≡ is_entries v.list)
beside_entries own others v None of found same = tt
beside_entries own others v (Some a) of found same =
    ap is_entries found.0 ∙ same ∙ ap is_entries (sym of.0)

pub beside_stands : (own others : Attributes) (v : Attribute) (beside : Option Attribute) → IsIn own v
    → IfSome beside (IsIn others) → AreBeside own (Some others) → StandBeside v beside
beside_stands own others v None of found alike = tt
beside_stands own others v (Some a) of found alike =
    (of.1 ∙ alike.0 ∙ sym found.1, subst HasNames (sym of.1) alike.1)
