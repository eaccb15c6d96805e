-- The values of lists with their labels, one attribute after another.
use Rattle.std.proofs.Common.{◌≡◌, ℕ, suc, ◌+◌, ◌≤◌, Bool, true, false, List, [], ◌∷◌, ◌++◌, refl, sym, ap, ◌∙◌}
use Rattle.std.proofs.Common.{◌<◌, Ok, append-nil, append_assoc, arith, drop, get_or, length, map, set, subst}
use Rattle.std.proofs.Common.{take, zero}
use Rattle.std.specs.Prelude.{IfSome, Option, None, Some, ◌&&◌, ◌==◌, cond, not, option_and_then, option_map, slice_get}
use Rattle.std.specs.Prelude.{unwrap_or}
use Rattle.std.specs.BTreeMap.{BTreeMap, get, is_at}
use Rattle.std.specs.Cmp.{tied_then, unsigned_tied}
use Rattle.std.specs.Int.{w32}
use Rattle.std.specs.List.{list_any}
use Rattle.std.specs.Map.{lookup}
use Rattle.std.specs.Ordering.{is_eq, nat_cmp}
use Rattle.std.proofs.Math.Seq.{drop-length}
use Rattle.std.proofs.lemmas.Bool.Decides.{nat_tests}
use Rattle.std.proofs.lemmas.Cmp.{nat_eq_equiv}
use Rattle.std.proofs.lemmas.List.{drop-set-lt, drop_all, drop_more, map-append, take_more_set}
use Rattle.nla_wire.specs.Fields.{number_at}
use Rattle.nla_wire.specs.Frames.{Frame, number}
use Rattle.nla_wire.specs.Items.{Item}
use Rattle.link_info.specs.Tables.{frames_in}
use Rattle.frame_shown.specs.Tables.{row_in}
use Rattle.frame_shown.specs.declared.form.Around.{Around}
use Rattle.frame_shown.specs.declared.form.List.{List as Shape}
use Rattle.frame_diff.specs.Forests.{Held, is_number, is_same_label}
use Rattle.frame_diff.specs.Groups.{picked, picked_by, picked_values}
use Rattle.frame_diff.specs.Keyed.{IsIn, labels_now, numbers_now, picked_numbers, value_of, values_now}
use Rattle.frame_diff.specs.Keys.{function_in, is_record, number_in}
use Rattle.frame_diff.specs.Labels.{GoAlong, are_ascending, count, count_in, first_labels, is_above, labels_behind}
use Rattle.frame_diff.specs.Labels.{label_cmp, labels_of, number_cmp, place_of}
use Rattle.frame_diff.specs.Members.{numbers_by}
use Rattle.frame_diff.specs.Walked.{Holding, Showing, reading_at}
use Rattle.frame_diff.specs.declared.keyed.Labelled.{Labelled}
use Rattle.frame_diff.specs.declared.keys.Key.{Key}
use Rattle.frame_diff.specs.declared.labels.Label.{Label}
use Rattle.frame_diff.specs.declared.walk.Attribute.{Attribute}
use Rattle.frame_diff.specs.declared.walk.Attributes.{Attributes}
use Rattle.frame_diff.proofs.Grouped.{list_split, picked_none}
use Rattle.frame_diff.proofs.Steps.{and_left, and_right, number_same}

-- ** counts

number_tied : (m n : Option ℕ) → is_eq (number_cmp m n) ≡ is_number n m
number_tied None None = refl
number_tied None (Some n) = refl
number_tied (Some m) None = refl
number_tied (Some m) (Some n) = unsigned_tied m n ∙ nat_eq_equiv.symm m n

pub counted : (counts : BTreeMap (Option ℕ) ℕ) (number other : Option ℕ) (n : ℕ) → n ≡ count_in counts number
    → unwrap_or (cond (is_eq (number_cmp number other)) (Some (n + 1)) (get number_cmp counts other)) 0
    ≡ cond (is_number other number) 1 0 + count_in counts other
counted counts number other n is =
    ap (λ b. unwrap_or (cond b (Some (n + 1)) (get number_cmp counts other)) 0) (number_tied number other)
    ∙ by (is_number other number) refl
  where
    by : (b : Bool) → is_number other number ≡ b
        → unwrap_or (cond b (Some (n + 1)) (get number_cmp counts other)) 0 ≡ cond b 1 0 + count_in counts other
    by true same =
        let e : count_in counts other ≡ count_in counts number =
        ap (count_in counts) (number_same other number same) in
        omega (arith, e, is)
    by false same = omega arith

-- ** lists that go along

along_none : (ls : List Label) → GoAlong ls []
along_none [] = tt
along_none (l ∷ ls) = tt

-- what is left of lists goes along, if there is none of the others
pub along_ended : {X : Type 0} (ls : List Label) (ws : List (Labelled X)) (i : ℕ) → length ws ≤ i
    → GoAlong ls (labels_now (drop i ws))
along_ended {X} ls ws i past =
    subst (λ (rest : List (Labelled X)). GoAlong ls (labels_now rest)) (sym (drop_all i ws past)) (along_none ls)

pub along_further : {X : Type 0} (vs ws : List (Labelled X)) (i : ℕ) (d e : Labelled X) → i < length vs
    → i < length ws → (get_or vs i d).label ≡ (get_or ws i e).label
    → GoAlong (labels_now (drop (i + 1) vs)) (labels_now (drop (i + 1) ws))
    → GoAlong (labels_now (drop i vs)) (labels_now (drop i ws))
along_further {X} vs ws i d e less within same rest =
    subst (λ (xs : List (Labelled X)). GoAlong (labels_now xs) (labels_now (drop i ws))) (sym (drop_more vs i d less))
    (subst (λ (xs : List (Labelled X)). GoAlong ((get_or vs i d).label ∷ labels_now (drop (i + 1) vs)) (labels_now xs))
    (sym (drop_more ws i e within)) (same, rest))

module _ {X : Type 0} (l : Label) where
  abbrev value_there : List (Labelled X) → Option ℕ → Option X
  value_there vs there = option_map (λ (w : Labelled X). w.value) (option_and_then (λ n. slice_get vs n) there)

  behind_one : (v : Labelled X) (vs : List (Labelled X)) (there : Option ℕ)
      → value_there vs there ≡ value_there (v ∷ vs) (option_map suc there)
  behind_one v vs None = refl
  behind_one v vs (Some n) = refl

  next_along : (m : Label) (ms : List Label) (v : Labelled X) (vs : List (Labelled X)) (place : ℕ)
      → ((n : ℕ) → place_of l ms ≡ Some n → value_there vs (Some n) ≡ value_of l vs)
      → place_of l (m ∷ ms) ≡ Some place
      → value_there (v ∷ vs) (Some place)
      ≡ value_there (v ∷ vs) (cond (is_same_label l m) (Some 0) (option_map suc (place_of l (labels_now vs))))
  next_along m ms v vs place later = by (is_same_label l m)
    where
      further : (there : Option ℕ) → place_of l ms ≡ there → option_map suc there ≡ Some place
          → value_there (v ∷ vs) (Some place)
          ≡ value_there (v ∷ vs) (option_map suc (place_of l (labels_now vs)))
      further None none h = absurd cc
      further (Some n) some h =
          ap (value_there (v ∷ vs)) (sym h) ∙ later n some ∙ behind_one v vs (place_of l (labels_now vs))

      by : (b : Bool) → cond b (Some 0) (option_map suc (place_of l ms)) ≡ Some place
          → value_there (v ∷ vs) (Some place)
          ≡ value_there (v ∷ vs) (cond b (Some 0) (option_map suc (place_of l (labels_now vs))))
      by true h = ap (value_there (v ∷ vs)) (sym h)
      by false h = further (place_of l ms) refl h

  -- the value with the label of one stands at its place, if it is there
  pub found_along : (own : List Label) (vs : List (Labelled X)) (place : ℕ) → place_of l own ≡ Some place
      → GoAlong own (labels_now vs) → value_there vs (Some place) ≡ value_of l vs
  found_along [] vs place found along = absurd cc
  found_along (m ∷ ms) [] place found along = refl
  found_along (m ∷ ms) (v ∷ vs) place found along =
      next_along m ms v vs place (λ n some. found_along ms vs n some along.1) found
      ∙ ap (λ k. value_there (v ∷ vs) (cond (is_same_label l k) (Some 0) (option_map suc (place_of l (labels_now vs)))))
      along.0

-- ** places of labels

label_tied : (l m : Label) → is_eq (label_cmp l m) ≡ is_same_label m l
label_tied l m = sym (tied_then (number_cmp l.number m.number) (nat_cmp l.again m.again))
    ∙ (λ k. number_tied l.number m.number k
    && (unsigned_tied l.again m.again ∙ nat_eq_equiv.symm l.again m.again) k)

-- a map has the places of labels from one on
abbrev pub HasPlaces : {X : Type 0} → BTreeMap Label ℕ → List (Labelled X) → ℕ → Type 0
HasPlaces places vs i =
    (m : Label) → get label_cmp places m ≡ option_map (λ n. n + i) (place_of m (labels_now (drop i vs)))

pub places_none : {X : Type 0} (places : BTreeMap Label ℕ) (vs : List (Labelled X)) (i : ℕ) → places.entries ≡ []
    → i ≡ length vs → HasPlaces places vs i
places_none {X} places vs i none is m =
    ap (lookup (is_at (label_cmp m))) none
    ∙ sym (ap (λ (ls : List (Labelled X)). option_map (λ n. n + i) (place_of m (labels_now ls)))
    (ap (λ n. drop n vs) is ∙ drop-length vs))

pub places_further : {X : Type 0} (old new : BTreeMap Label ℕ) (vs : List (Labelled X)) (i : ℕ) (d : Labelled X)
    → i < length vs
    → ((m : Label) → get label_cmp new m ≡ cond (is_eq (label_cmp (get_or vs i d).label m)) (Some i)
    (get label_cmp old m))
    → HasPlaces old vs (i + 1) → HasPlaces new vs i
places_further {X} old new vs i d within puts was m =
    puts m
    ∙ (λ k. cond (label_tied (get_or vs i d).label m k) (Some i) (was m k))
    ∙ by (is_same_label m (get_or vs i d).label) (place_of m (labels_now (drop (i + 1) vs)))
    ∙ sym (ap (λ (ls : List (Labelled X)). option_map (λ n. n + i) (place_of m (labels_now ls)))
    (drop_more vs i d within))
  where
    by : (b : Bool) (o : Option ℕ) → cond b (Some i) (option_map (λ n. n + (i + 1)) o)
        ≡ option_map (λ n. n + i) (cond b (Some 0) (option_map suc o))
    by true o = let e : i ≡ 0 + i = omega arith in ap Some e
    by false None = refl
    by false (Some n) = let e : n + (i + 1) ≡ suc n + i = omega arith in ap Some e

pub places_all : {X : Type 0} (places : BTreeMap Label ℕ) (vs : List (Labelled X)) (i : ℕ) → i ≡ 0
    → HasPlaces places vs i → (m : Label) → get label_cmp places m ≡ place_of m (labels_now vs)
places_all places vs i is has m =
    has m ∙ ap (λ j. option_map (λ n. n + j) (place_of m (labels_now (drop j vs)))) is ∙ by (place_of m (labels_now vs))
  where
    by : (o : Option ℕ) → option_map (λ n. n + 0) o ≡ o
    by None = refl
    by (Some n) = let e : n + 0 ≡ n = omega arith in ap Some e

-- ** numbers that ascend

-- none above another one is among those before it
abbrev NoneAbove : Option ℕ → List (Option ℕ) → Type 0
NoneAbove last before = (m : Option ℕ) → is_above last m ≡ true → count m before ≡ 0

not_itself : (n m : Option ℕ) → is_above n m ≡ true → is_number m n ≡ false
not_itself n None h = absurd cc
not_itself None (Some m) h = refl
not_itself (Some n) (Some m) h = grind (arith, nat_tests)

above_both : (last n m : Option ℕ) → is_above last n ≡ true → is_above n m ≡ true → is_above last m ≡ true
above_both last n None h k = k
above_both None n (Some m) h k = refl
above_both (Some l) None (Some m) h k = absurd cc
above_both (Some l) (Some n) (Some m) h k = grind (arith, nat_tests)

ascending_behind : (last : Option ℕ) (before ns : List (Option ℕ)) → NoneAbove last before
    → are_ascending last ns ≡ true → first_labels ns ≡ labels_behind before ns
ascending_behind last before [] none up = refl
ascending_behind last before (n ∷ ns) none up =
    let above : is_above last n ≡ true = and_left (is_above last n) (are_ascending n ns) up in
    let rest : are_ascending n ns ≡ true = and_right (is_above last n) (are_ascending n ns) up in
    let next : NoneAbove n (n ∷ before) = λ m h.
    (λ k. cond (not_itself n m h k) 1 0 + none m (above_both last n m above h) k) in
    let one : 0 ≡ count n before = sym (none n above) in
    (λ k. (record { number = n; again = one k }) ∷ ascending_behind n (n ∷ before) ns next rest k)

pub ascending : (ns : List (Option ℕ)) → are_ascending None ns ≡ true → first_labels ns ≡ labels_of ns
ascending ns up = ascending_behind None [] ns (λ m h. refl) up

-- the numbers of values whose labels count none
numbers_first : (ns : List (Option ℕ)) → map (λ (l : Label). l.number) (first_labels ns) ≡ ns
numbers_first [] = refl
numbers_first (n ∷ ns) = ap (λ ms. n ∷ ms) (numbers_first ns)

numbers_labelled : {X : Type 0} (vs : List (Labelled X))
    → numbers_now vs ≡ map (λ (l : Label). l.number) (labels_now vs)
numbers_labelled [] = refl
numbers_labelled (v ∷ vs) = ap (λ ns. v.label.number ∷ ns) (numbers_labelled vs)

-- one further
pub ascends : {X : Type 0} (before : Option ℕ) (vs : List (Labelled X)) (i : ℕ) (d v : Labelled X) (all : Bool)
    → i < length vs → v ≡ get_or vs i d → is_above before v.label.number ≡ true
    → are_ascending before (numbers_now (drop i vs)) ≡ all
    → are_ascending v.label.number (numbers_now (drop (i + 1) vs)) ≡ all
ascends {X} before vs i d v all less here up was =
    ap (λ b. b && are_ascending v.label.number (numbers_now (drop (i + 1) vs))) (sym up)
    ∙ ap (λ (w : Labelled X). is_above before w.label.number && are_ascending w.label.number
    (numbers_now (drop (i + 1) vs))) here
    ∙ sym (ap (λ (ws : List (Labelled X)). are_ascending before (numbers_now ws)) (drop_more vs i d less)) ∙ was

pub ascends_not : {X : Type 0} (before : Option ℕ) (vs : List (Labelled X)) (i : ℕ) (d v : Labelled X) (all : Bool)
    → i < length vs → v ≡ get_or vs i d → is_above before v.label.number ≡ false
    → are_ascending before (numbers_now (drop i vs)) ≡ all → all ≡ false
ascends_not {X} before vs i d v all less here up was =
    sym was
    ∙ ap (λ (ws : List (Labelled X)). are_ascending before (numbers_now ws)) (drop_more vs i d less)
    ∙ sym (ap (λ (w : Labelled X). is_above before w.label.number && are_ascending w.label.number
    (numbers_now (drop (i + 1) vs))) here)
    ∙ ap (λ b. b && are_ascending v.label.number (numbers_now (drop (i + 1) vs))) up

pub ascends_over : {X : Type 0} (before : Option ℕ) (vs : List (Labelled X)) (i : ℕ) (all : Bool) → i ≡ length vs
    → are_ascending before (numbers_now (drop i vs)) ≡ all → all ≡ true
ascends_over {X} before vs i all is was =
    sym was ∙ ap (λ (ws : List (Labelled X)). are_ascending before (numbers_now ws))
    (ap (λ n. drop n vs) is ∙ drop-length vs)

-- ** one attribute further

pub labels_onward : (own rest left : List (Option ℕ)) (was now all : List Label) → left ≡ own ++ rest
    → now ≡ was ++ first_labels own → was ++ first_labels left ≡ all → now ++ first_labels rest ≡ all
labels_onward own rest left was now all split more before =
    ap (λ ls. ls ++ first_labels rest) more
    ∙ append_assoc was (first_labels own) (first_labels rest)
    ∙ ap (λ ls. was ++ ls) (sym (map-append (λ n. record { number = n; again = 0 }) own rest)
    ∙ ap first_labels (sym split))
    ∙ before

pub values_onward : (own rest left was now all : List (Option Held)) → left ≡ own ++ rest → now ≡ was ++ own
    → was ++ left ≡ all → now ++ rest ≡ all
values_onward own rest left was now all split more before =
    ap (λ hs. hs ++ rest) more ∙ append_assoc was own rest ∙ ap (λ hs. was ++ hs) (sym split) ∙ before

module _ (nest : Showing) (inner : Holding) (is_state : Bool) (key : Key) (a : Attributes) where
  -- those of some attributes of a list
  abbrev pub numbers_left : List Item → List (Option ℕ)
  numbers_left it = numbers_by (number_in a.around.now (Some key) a.list)
      (picked_by (reading_at nest inner is_state a.around.now) a.number a.list) (frames_in it)

  abbrev pub values_left : List Item → List (Option Held)
  values_left it = picked_values (reading_at nest inner is_state a.around.now) a.number a.list (frames_in it)

  -- an attribute is the value that a frame is, if it is one
  abbrev pub IsPicked : Frame → Option Attribute → Type 0
  IsPicked f e =
      (picked nest inner is_state e ≡ picked_by (reading_at nest inner is_state a.around.now) a.number a.list f)
      × (picked_numbers key e ≡ map (λ h. number_in a.around.now (Some key) a.list f)
      (picked_by (reading_at nest inner is_state a.around.now) a.number a.list f))

  numbers_further : (f : Frame) (e : Option Attribute) (it next : List Item) → it ≡ Ok f ∷ next → IsPicked f e
      → numbers_left it ≡ picked_numbers key e ++ numbers_left next
  numbers_further f e it next here is =
      ap numbers_left here ∙ ap (λ ns. ns ++ numbers_left next) (sym is.1)

  pub first_further : (f : Frame) (e : Option Attribute) (it next : List Item) (was now all : List Label)
      → it ≡ Ok f ∷ next → IsPicked f e → now ≡ was ++ first_labels (picked_numbers key e)
      → was ++ first_labels (numbers_left it) ≡ all → now ++ first_labels (numbers_left next) ≡ all
  first_further f e it next was now all here is more before =
      labels_onward (picked_numbers key e) (numbers_left next) (numbers_left it) was now all
      (numbers_further f e it next here is) more before

  pub values_further : (f : Frame) (e : Option Attribute) (it next : List Item) (was now all : List (Option Held))
      → it ≡ Ok f ∷ next → IsPicked f e → now ≡ was ++ picked nest inner is_state e
      → was ++ values_left it ≡ all → now ++ values_left next ≡ all
  values_further f e it next was now all here is more before =
      values_onward (picked nest inner is_state e) (values_left next) (values_left it) was now all
      (list_split nest inner is_state a.number a.list a.around.now f e it next here is.0) more before

  -- ** no attribute further

  labels_over : (labels : List (Option ℕ) → List Label) → labels [] ≡ [] → (it : List Item) (now all : List Label)
      → frames_in it ≡ [] → now ++ labels (numbers_left it) ≡ all → now ≡ all
  labels_over labels none it now all over was =
      sym (ap (λ fs. now ++ labels (numbers_by (number_in a.around.now (Some key) a.list)
      (picked_by (reading_at nest inner is_state a.around.now) a.number a.list) fs)) over
      ∙ ap (λ ls. now ++ ls) none ∙ append-nil now) ∙ was

  pub first_over : (it : List Item) (now all : List Label) → frames_in it ≡ []
      → now ++ first_labels (numbers_left it) ≡ all → now ≡ all
  first_over it now all over was = labels_over first_labels refl it now all over was

  pub values_over : (it : List Item) (now all : List (Option Held)) → frames_in it ≡ []
      → now ++ values_left it ≡ all → now ≡ all
  values_over it now all over was =
      let r = reading_at nest inner is_state a.around.now in
      sym (ap (λ fs. now ++ picked_values r a.number a.list fs) over
      ∙ ap (λ hs. now ++ hs) (picked_none r a.number a.list) ∙ append-nil now) ∙ was

-- ** those that are counted

-- labels go on behind numbers of which so many are counted
abbrev pub GoOn : {X : Type 0} → BTreeMap (Option ℕ) ℕ → List (Labelled X) → ℕ → List Label → Type 0
GoOn counts vs i all = (before : List (Option ℕ)) × ((n : Option ℕ) → count_in counts n ≡ count n before)
    × (labels_now (take i vs) ++ labels_behind before (numbers_now (drop i vs)) ≡ all)

pub none_counted : {X : Type 0} (counts : BTreeMap (Option ℕ) ℕ) (vs : List (Labelled X)) → counts.entries ≡ []
    → GoOn counts vs 0 (labels_of (numbers_now vs))
none_counted counts vs empty =
    ([], (λ n. ap (λ es. unwrap_or (lookup (is_at (number_cmp n)) es) 0) empty), refl)

pub few_more : (old new : BTreeMap (Option ℕ) ℕ) (number : Option ℕ) (i : ℕ)
    → ((m : Option ℕ) → count_in new m ≡ cond (is_number m number) 1 0 + count_in old m)
    → ((n : Option ℕ) → count_in old n ≤ i) → (n : Option ℕ) → count_in new n ≤ i + 1
few_more old new number i counts few n = by (is_number n number) (counts n)
  where
    by : (b : Bool) → count_in new n ≡ cond b 1 0 + count_in old n → count_in new n ≤ i + 1
    by true is = omega (arith, is, few n)
    by false is = omega (arith, is, few n)

pub one_counted : {X : Type 0} (old new : BTreeMap (Option ℕ) ℕ) (vs : List (Labelled X)) (i n again : ℕ)
    (number : Option ℕ) (v d : Labelled X) (all : List Label) → i < length vs
    → number ≡ (get_or vs i d).label.number → again ≡ count_in old number
    → v.label ≡ record { number = number; again = again }
    → ((m : Option ℕ) → count_in new m ≡ cond (is_number m number) 1 0 + count_in old m)
    → GoOn old vs i all → n ≡ i + 1 → GoOn new (set vs i v) n all
one_counted {X} old new vs i n again number v d all within is many label counts on next = (
  number ∷ on.0,
  (λ m. let e : count_in old m ≡ count m on.0 = on.1 m in
      let g : count_in new m ≡ cond (is_number m number) 1 0 + count_in old m = counts m in omega (arith, e, g)),
  (λ k. labels_now (take (next k) (set vs i v))
      ++ labels_behind (number ∷ on.0) (numbers_now (drop (next k) (set vs i v))))
      ∙ (λ k. labels_now (take_more_set vs i v within k)
      ++ labels_behind (number ∷ on.0) (numbers_now (drop-set-lt (i + 1) vs i v (omega arith) k)))
      ∙ ap (λ ls. ls ++ labels_behind (number ∷ on.0) (numbers_now (drop (i + 1) vs)))
      (map-append (λ (w : Labelled X). w.label) (take i vs) (v ∷ []))
      ∙ append_assoc (labels_now (take i vs)) (v.label ∷ [])
      (labels_behind (number ∷ on.0) (numbers_now (drop (i + 1) vs)))
      ∙ ap (λ l. labels_now (take i vs) ++ l ∷ labels_behind (number ∷ on.0) (numbers_now (drop (i + 1) vs)))
      (label ∙ ap (λ a. record { number = number; again = a }) (many ∙ on.1 number))
      ∙ (λ k. labels_now (take i vs) ++ labels_behind on.0 (is k ∷ numbers_now (drop (i + 1) vs)))
      ∙ ap (λ (ws : List (Labelled X)). labels_now (take i vs) ++ labels_behind on.0 (numbers_now ws))
      (sym (drop_more vs i d within))
      ∙ on.2,
)

pub values_same : {X : Type 0} (vs : List (Labelled X)) (i : ℕ) (v d : Labelled X)
    → v.value ≡ (get_or vs i d).value → values_now (set vs i v) ≡ values_now vs
values_same [] i v d is = refl
values_same (w ∷ vs) zero v d is = ap (λ x. x ∷ values_now vs) is
values_same (w ∷ vs) (suc i) v d is = ap (λ xs. w.value ∷ xs) (values_same vs i v d is)

-- labels of which none counts another one say the numbers
pub numbers_said : {X : Type 0} (vs : List (Labelled X)) (ns : List (Option ℕ)) → labels_now vs ≡ first_labels ns
    → numbers_now vs ≡ ns
numbers_said vs ns is = numbers_labelled vs ∙ ap (map (λ (l : Label). l.number)) is ∙ numbers_first ns

-- labelled as if no two had one number, and then as they are
pub all_labelled : {X : Type 0} (old new : List (Labelled X)) (ns : List (Option ℕ))
    → labels_now old ≡ first_labels ns → labels_now new ≡ labels_of (numbers_now old) → labels_now new ≡ labels_of ns
all_labelled old new ns first is = is ∙ ap labels_of (numbers_said old ns first)

-- ** of one list

pub is_in : (list : Attributes) (e : Option Attribute) → IfSome e (λ a. a.list ≡ list.list)
    → IfSome e (λ a. a.around.now ≡ list.around.now) → IfSome e (IsIn list)
is_in list None same around = tt
is_in list (Some a) same around = (same, around)

-- ** numbers of functions

pub function_now : (cx : Around) (list : Shape) (f : Frame) (fs : List Frame)
    → is_record (row_in cx list (number f)).1 ≡ true → list_any (λ g. number g == number f) fs ≡ false
    → Some (number_at w32 f.payload 0) ≡ function_in cx list (f ∷ fs)
function_now cx list f fs record_is once =
    sym (λ k. cond (record_is k && not (once k)) (Some (number_at w32 f.payload 0)) (function_in cx list fs))

pub not_record : (cx : Around) (list : Shape) (f : Frame) (fs : List Frame)
    → is_record (row_in cx list (number f)).1 ≡ false → function_in cx list fs ≡ function_in cx list (f ∷ fs)
not_record cx list f fs other =
    sym (λ k. cond (other k && not (list_any (λ g. number g == number f) fs)) (Some (number_at w32 f.payload 0))
    (function_in cx list fs))

pub not_once : (cx : Around) (list : Shape) (f : Frame) (fs : List Frame)
    → list_any (λ g. number g == number f) fs ≡ true → function_in cx list fs ≡ function_in cx list (f ∷ fs)
not_once cx list f fs again =
    sym ((λ k. cond (is_record (row_in cx list (number f)).1 && not (again k)) (Some (number_at w32 f.payload 0))
    (function_in cx list fs)) ∙ by (is_record (row_in cx list (number f)).1))
  where
    by : (b : Bool) → cond (b && false) (Some (number_at w32 f.payload 0)) (function_in cx list fs)
        ≡ function_in cx list fs
    by true = refl
    by false = refl
