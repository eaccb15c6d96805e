-- The attributes of a list, one after another.
use Rattle.std.proofs.Common.{◌≡◌, ℕ, zero, suc, ◌≤◌, ◌||◌, inl, inr, set, ◌+◌, ◌-◌, ◌<◌, ◌==◌, List, [], ◌∷◌, ◌++◌}
use Rattle.std.proofs.Common.{length, refl, sym, ap, ◌∙◌, arith}
use Rattle.std.specs.Prelude.{Bool, true, false, None, Some, codes, cond, not, map, replicate, Ok, Err}
use Rattle.std.specs.Prelude.{slice_index}
use Rattle.std.specs.List.{flat_map, list_any}
use Rattle.std.proofs.lemmas.List.{append-nil, get_or-set_other}
use Rattle.std.proofs.lemmas.Grind.{get_or-set_at}
use Rattle.std.proofs.lemmas.List.Concat.{flat_map-append}
use Rattle.std.proofs.lemmas.Bool.Decides.{eqb_tells}
use Rattle.std.proofs.lemmas.Bool.{eq-eqb, ne_eqb, or_from, or_parts}
use Rattle.std.proofs.lemmas.List.Sums.{fold-append}
use Rattle.std.proofs.Math.Bool.{or-false, or-true}
use Rattle.json.specs.Token.{Token}
use Rattle.nla_wire.specs.Frames.{Frame, number}
use Rattle.nla_wire.specs.Items.{Item as Read, frame_count}
use Rattle.shown.specs.Drafts.{Draft, Members, Ends, with_value, with_begun, with_members, object_of, list_of}
use Rattle.shown.specs.declared.page.Nest.TheVariants.{Object, List as Items}
use Rattle.shown.proofs.Drafts.{list_ended, object_ended}
use Rattle.frame_shown.specs.Items.{Item, Lists, arrays, elements, is_value, values_with}
use Rattle.frame_shown.specs.Items.{shown_as, number_in, has_number, comes_in, count_of}
use Rattle.frame_shown.specs.Items.{last_ones, earlier_ones, named_ones, kept_ones, objects}
use Rattle.frame_shown.specs.Items.{are_any, list_under, values_of, objects_under}
use Rattle.frame_shown.specs.Frames.{by_row, items_in, way_shown}
use Rattle.frame_shown.specs.Kept.{frame_members}
use Rattle.frame_shown.specs.Tables.{Known, is_each, is_kept, is_kept_form, is_listed, kind_shown, row_in}
use Rattle.frame_shown.specs.Values.{Nesting}
use Rattle.frame_shown.specs.declared.form.Around.{Around}
use Rattle.frame_shown.specs.declared.form.List.{List as Shape}
use Rattle.frame_shown.specs.declared.form.Way.{Way}
use Rattle.frame_shown.specs.declared.form.Way.TheVariants as Ways

-- ** an attribute by its row

-- what it is, by whether it is kept, and whether it is a value of a list
abbrev pub by_tests : Bool → Bool → Nesting → Around → Known → Frame → Item
by_tests kept each nest cx row f = cond kept (Item.as_is row.0 (kind_shown row.1 f.kind) f.payload)
    (cond each (Item.each (number f) (way_shown nest cx row.1 f.payload))
    (Item.named (number f) ((row.0, way_shown nest cx row.1 f.payload) ∷ [])))

kept_is : (nest : Nesting) (cx : Around) (row : Known) (f : Frame) → is_kept row.1 f.payload ≡ true
    → by_row nest cx row f ≡ Item.as_is row.0 (kind_shown row.1 f.kind) f.payload
kept_is nest cx row f is = ap (λ b. by_tests b (is_each row.1) nest cx row f) is

value_is : (nest : Nesting) (cx : Around) (row : Known) (f : Frame) → is_kept row.1 f.payload ≡ false
    → is_each row.1 ≡ true → by_row nest cx row f ≡ Item.each (number f) (way_shown nest cx row.1 f.payload)
value_is nest cx row f named each = λ i. by_tests (named i) (each i) nest cx row f

named_is : (nest : Nesting) (cx : Around) (row : Known) (f : Frame) → is_kept row.1 f.payload ≡ false
    → is_each row.1 ≡ false
    → by_row nest cx row f ≡ Item.named (number f) ((row.0, way_shown nest cx row.1 f.payload) ∷ [])
named_is nest cx row f named one = λ i. by_tests (named i) (one i) nest cx row f

pub kept_no_number : (nest : Nesting) (cx : Around) (row : Known) (f : Frame) → is_kept row.1 f.payload ≡ true
    → number_in (by_row nest cx row f) ≡ None
kept_no_number nest cx row f is = ap number_in (kept_is nest cx row f is)

pub value_no_number : (nest : Nesting) (cx : Around) (row : Known) (f : Frame) → is_kept row.1 f.payload ≡ false
    → is_each row.1 ≡ true → number_in (by_row nest cx row f) ≡ None
value_no_number nest cx row f named each = ap number_in (value_is nest cx row f named each)

pub named_number : (nest : Nesting) (cx : Around) (row : Known) (f : Frame) → is_kept row.1 f.payload ≡ false
    → is_each row.1 ≡ false → number_in (by_row nest cx row f) ≡ Some (number f)
named_number nest cx row f named one = ap number_in (named_is nest cx row f named one)

pub kept_said : (nest : Nesting) (cx : Around) (row : Known) (f : Frame) → is_kept row.1 f.payload ≡ true
    → kept_ones (by_row nest cx row f ∷ []) ≡ frame_members row.0 (kind_shown row.1 f.kind) f.payload ∷ []
kept_said nest cx row f is = ap (λ x. kept_ones (x ∷ [])) (kept_is nest cx row f is)

pub named_not_said : (nest : Nesting) (cx : Around) (row : Known) (f : Frame) → is_kept row.1 f.payload ≡ false
    → kept_ones (by_row nest cx row f ∷ []) ≡ []
named_not_said nest cx row f named =
    ap (λ b. kept_ones (by_tests b (is_each row.1) nest cx row f ∷ [])) named ∙ either (is_each row.1) where
      either : (each : Bool) → kept_ones (by_tests false each nest cx row f ∷ []) ≡ []
      either true = refl
      either false = refl

-- what one that is kept says and is, what a value of a list, and what one that has a name
pub kept_frame : (nest : Nesting) (cx : Around) (row : Known) (f : Frame) → is_kept row.1 f.payload ≡ true
    → (shown_as (by_row nest cx row f) ≡ []) × (are_any (kept_ones (by_row nest cx row f ∷ [])) ≡ true)
    × (is_value (by_row nest cx row f) ≡ false)
kept_frame nest cx row f is =
    let x = kept_is nest cx row f is in
    (ap shown_as x, ap (λ y. are_any (kept_ones (y ∷ []))) x, ap is_value x)

pub value_frame : (nest : Nesting) (cx : Around) (row : Known) (f : Frame) → is_kept row.1 f.payload ≡ false
    → is_each row.1 ≡ true
    → (shown_as (by_row nest cx row f) ≡ []) × (are_any (kept_ones (by_row nest cx row f ∷ [])) ≡ false)
    × (is_value (by_row nest cx row f) ≡ true)
value_frame nest cx row f named each =
    let x = value_is nest cx row f named each in
    (ap shown_as x, ap (λ y. are_any (kept_ones (y ∷ []))) x, ap is_value x)

pub named_frame : (nest : Nesting) (cx : Around) (row : Known) (f : Frame) → is_kept row.1 f.payload ≡ false
    → is_each row.1 ≡ false
    → (shown_as (by_row nest cx row f) ≡ (row.0, way_shown nest cx row.1 f.payload) ∷ [])
    × (are_any (kept_ones (by_row nest cx row f ∷ [])) ≡ false)
    × (is_value (by_row nest cx row f) ≡ false)
named_frame nest cx row f named one =
    let x = named_is nest cx row f named one in
    (ap shown_as x, ap (λ y. are_any (kept_ones (y ∷ []))) x, ap is_value x)

pub ruleset frames_by_row = (kept_frame, value_frame, named_frame)

pub ruleset numbers_by_row = (kept_no_number, value_no_number, named_number)

-- the same as tests
pub kept_test : (nest : Nesting) (cx : Around) (row : Known) (f : Frame)
    → are_any (kept_ones (by_row nest cx row f ∷ [])) ≡ is_kept row.1 f.payload
kept_test nest cx row f = either (is_kept row.1 f.payload) (is_each row.1) where
  either : (kept each : Bool) → are_any (kept_ones (by_tests kept each nest cx row f ∷ [])) ≡ kept
  either true each = refl
  either false true = refl
  either false false = refl

pub value_test : (nest : Nesting) (cx : Around) (row : Known) (f : Frame)
    → is_value (by_row nest cx row f) ≡ is_each row.1
value_test nest cx row f = of_way row.1 where
  either : (kept each : Bool) → (kept ≡ true → each ≡ false) → is_value (by_tests kept each nest cx row f) ≡ each
  either true each h = sym (h refl)
  either false true h = refl
  either false false h = refl

  of_way : (way : Way) → is_value (by_tests (is_kept way f.payload) (is_each way) nest cx row f) ≡ is_each way
  of_way (Ways.Own form) = either (is_kept_form form f.payload) false (λ _. refl)
  of_way (Ways.By style) = either false (is_listed style) (λ h. absurd cc)

-- ** one attribute more

-- what one attribute adds, where the rest follows from what is left
pub on_next : (first ms more : Members) (page new all : Draft) → first ≡ ms ++ more
    → with_members first page ≡ all → new ≡ with_members ms page → with_members more new ≡ all
on_next first ms more page new all e was is =
    ap (with_members more) is
    ∙ sym (fold-append (λ (p : Draft) m. with_value m.0 m.1 p) page ms more)
    ∙ ap (λ members. with_members members page) (sym e)
    ∙ was

pub last_shown : (x : Item) (n : ℕ) (rest : List Item) → number_in x ≡ Some n → comes_in n rest ≡ false
    → last_ones (x ∷ rest) ≡ shown_as x ++ last_ones rest
last_shown (Item.named m ms) n rest is none =
    let same : m ≡ n = cc in
    ap (λ b. cond b [] ms ++ last_ones rest) (ap (λ k. comes_in k rest) same ∙ none)
last_shown (Item.as_is name kind payload) n rest is none = absurd cc
last_shown (Item.each m value) n rest is none = absurd cc

pub last_passed : (x : Item) (n : ℕ) (rest : List Item) → number_in x ≡ Some n → comes_in n rest ≡ true
    → last_ones (x ∷ rest) ≡ last_ones rest
last_passed (Item.named m ms) n rest is some =
    let same : m ≡ n = cc in
    ap (λ b. cond b [] ms ++ last_ones rest) (ap (λ k. comes_in k rest) same ∙ some)
last_passed (Item.as_is name kind payload) n rest is some = absurd cc
last_passed (Item.each m value) n rest is some = absurd cc

pub last_kept : (x : Item) (rest : List Item) → number_in x ≡ None → last_ones (x ∷ rest) ≡ last_ones rest
last_kept (Item.named m ms) rest is = absurd cc
last_kept (Item.as_is name kind payload) rest is = refl
last_kept (Item.each m value) rest is = refl

pub earlier_shown : (x : Item) (n : ℕ) (rest : List Item) → number_in x ≡ Some n → comes_in n rest ≡ true
    → earlier_ones (x ∷ rest) ≡ shown_as x ∷ earlier_ones rest
earlier_shown (Item.named m ms) n rest is some =
    let same : m ≡ n = cc in
    ap (λ b. cond b (ms ∷ []) [] ++ earlier_ones rest) (ap (λ k. comes_in k rest) same ∙ some)
earlier_shown (Item.as_is name kind payload) n rest is some = absurd cc
earlier_shown (Item.each m value) n rest is some = absurd cc

pub earlier_passed : (x : Item) (n : ℕ) (rest : List Item) → number_in x ≡ Some n → comes_in n rest ≡ false
    → earlier_ones (x ∷ rest) ≡ earlier_ones rest
earlier_passed (Item.named m ms) n rest is none =
    let same : m ≡ n = cc in
    ap (λ b. cond b (ms ∷ []) [] ++ earlier_ones rest) (ap (λ k. comes_in k rest) same ∙ none)
earlier_passed (Item.as_is name kind payload) n rest is none = absurd cc
earlier_passed (Item.each m value) n rest is none = absurd cc

pub earlier_kept : (x : Item) (rest : List Item) → number_in x ≡ None → earlier_ones (x ∷ rest) ≡ earlier_ones rest
earlier_kept (Item.named m ms) rest is = absurd cc
earlier_kept (Item.as_is name kind payload) rest is = refl
earlier_kept (Item.each m value) rest is = refl

-- ** lists of them

any_mapped : {A B : Type 0} (h : A → B) (xs : List A) → are_any (map h xs) ≡ are_any xs
any_mapped h [] = refl
any_mapped h (x ∷ xs) = refl

objects_values : (os : List Members) → flat_map (λ m. m.1) (objects os) ≡ flat_map (λ v. v) (map object_of os)
objects_values [] = refl
objects_values (o ∷ os) = ap (λ l. object_of o ++ l) (objects_values os)

named_values : (items : List Item)
    → flat_map (λ m. m.1) (flat_map shown_as items) ≡ flat_map values_of (named_ones items)
named_values [] = refl
named_values (Item.named n ms ∷ items) =
    flat_map-append (λ m. m.1) ms (flat_map shown_as items) ∙ ap (λ l. values_of ms ++ l) (named_values items)
named_values (Item.as_is name kind payload ∷ items) = named_values items
named_values (Item.each n value ∷ items) = named_values items

under : (name : List ℕ) (vs : List (List Token)) → are_any vs ≡ true
    → list_under name vs ≡ (name, list_of (flat_map (λ v. v) vs)) ∷ []
under name [] any = absurd cc
under name (v ∷ vs) any = refl

-- a list that was begun, filled and ended
list_shown : (name : List ℕ) (vs : List (List Token)) (ms : Members) (old last new : Draft) → are_any vs ≡ true
    → flat_map (λ m. m.1) ms ≡ flat_map (λ v. v) vs → last ≡ with_members ms (with_begun name Items old)
    → Ends last new → new ≡ with_members (list_under name vs) old
list_shown name vs ms old last new any same is ends =
    list_ended name ms old last new is ends
    ∙ (λ k. with_value name (list_of (same k)) old)
    ∙ ap (λ members. with_members members old) (sym (under name vs any))

pub objects_ended : (name : List ℕ) (os : List Members) (old last new : Draft)
    → last ≡ with_members (objects os) (with_begun name Items old) → Ends last new
    → new ≡ with_value name (list_of (flat_map (λ v. v) (map object_of os))) old
objects_ended name os old last new is ends =
    list_ended name (objects os) old last new is ends
    ∙ ap (λ v. with_value name (list_of v) old) (objects_values os)

pub objects_shown : (name : List ℕ) (os : List Members) (old last new : Draft) → are_any os ≡ true
    → last ≡ with_members (objects os) (with_begun name Items old) → Ends last new
    → new ≡ with_members (list_under name (map object_of os)) old
objects_shown name os old last new any is ends =
    list_shown name (map object_of os) (objects os) old last new (any_mapped object_of os ∙ any) (objects_values
    os) is
    ends

pub named_shown : (name : List ℕ) (items : List Item) (old last new : Draft)
    → last ≡ with_members (flat_map shown_as items) (with_begun name Items old) → Ends last new
    → new ≡ with_value name (list_of (flat_map values_of (named_ones items))) old
named_shown name items old last new is ends =
    list_ended name (flat_map shown_as items) old last new is ends
    ∙ ap (λ v. with_value name (list_of v) old) (named_values items)

objects_flat : (os : List Members) → flat_map (λ m. m.1) (objects os) ≡ flat_map object_of os
objects_flat [] = refl
objects_flat (o ∷ os) = ap (λ l. object_of o ++ l) (objects_flat os)

-- an object that holds one list, which was begun, filled and ended
pub objects_listed : (name listed : List ℕ) (os : List Members) (old last mid new : Draft)
    → last ≡ with_members (objects os) (with_begun listed Items (with_begun name Object old)) → Ends last mid
    → Ends mid new → new ≡ with_members ((name, object_of (objects_under listed os)) ∷ []) old
objects_listed name listed os old last mid new is ends ends' =
    object_ended name (objects_under listed os) old mid new
    (list_ended listed (objects os) (with_begun name Object old) last mid is ends
    ∙ (λ k. with_value listed (list_of (objects_flat os k)) (with_begun name Object old))) ends'

-- members that were added after others
pub both_added : (ms ns : Members) (old page new : Draft) → page ≡ with_members ms old → new ≡ with_members ns page
    → new ≡ with_members (ms ++ ns) old
both_added ms ns old page new is then =
    then ∙ ap (with_members ns) is ∙ sym (fold-append (λ (p : Draft) m. with_value m.0 m.1 p) old ms ns)

-- ** how many there are of a number

its_number : (x : Item) (n : ℕ) → number_in x ≡ Some n → has_number n x ≡ true
its_number (Item.named k ms) n is = eq-eqb k n cc
its_number (Item.as_is name kind payload) n is = absurd cc
its_number (Item.each m value) n is = absurd cc

other_number : (x : Item) (m n : ℕ) → number_in x ≡ Some m → (m ≡ n → ⊥) → has_number n x ≡ false
other_number (Item.named k ms) m n is differ =
    let same : k ≡ m = cc in
    ne_eqb k n (λ h. differ (sym same ∙ h))
other_number (Item.as_is name kind payload) m n is differ = refl
other_number (Item.each k value) m n is differ = refl

no_number : (x : Item) (n : ℕ) → number_in x ≡ None → has_number n x ≡ false
no_number (Item.named k ms) n is = absurd cc
no_number (Item.as_is name kind payload) n is = refl
no_number (Item.each m value) n is = refl

pub count_first : (x : Item) (n : ℕ) (rest : List Item) → number_in x ≡ Some n
    → count_of n (x ∷ rest) ≡ 1 + count_of n rest
count_first x n rest is = ap (λ b. cond b 1 0 + count_of n rest) (its_number x n is)

pub none_more : (k : ℕ) → 0 + k ≡ k
none_more k = omega arith

pub count_passed : (x : Item) (n : ℕ) (rest : List Item) → number_in x ≡ None
    → count_of n (x ∷ rest) ≡ count_of n rest
count_passed x n rest is =
    ap (λ b. cond b 1 0 + count_of n rest) (no_number x n is) ∙ none_more (count_of n rest)

pub count_other : (x : Item) (m n : ℕ) (rest : List Item) → number_in x ≡ Some m → (m ≡ n → ⊥)
    → count_of n (x ∷ rest) ≡ count_of n rest
count_other x m n rest is differ =
    ap (λ b. cond b 1 0 + count_of n rest) (other_number x m n is differ) ∙ none_more (count_of n rest)

one_at_least : (k : ℕ) → 1 + k ≡ 0 → ⊥
one_at_least k h = omega (arith, h)

-- none is left exactly where none comes
none_by : (b : Bool) (k : ℕ) (c : Bool) → cond b 1 0 + k ≡ 0 → (k ≡ 0 → c ≡ false) → (b || c) ≡ false
none_by true k c none rest = absurd (one_at_least k none)
none_by false k c none rest = rest (sym (none_more k) ∙ none)

some_by : (b : Bool) (k : ℕ) (c : Bool) → (cond b 1 0 + k ≡ 0 → ⊥) → ((k ≡ 0 → ⊥) → c ≡ true) → (b || c) ≡ true
some_by true k c some rest = refl
some_by false k c some rest = rest (λ h. some (none_more k ∙ h))

pub none_comes : (n : ℕ) (items : List Item) → count_of n items ≡ 0 → comes_in n items ≡ false
none_comes n [] none = refl
none_comes n (x ∷ items) none =
    none_by (has_number n x) (count_of n items) (comes_in n items) none (none_comes n items)

pub some_comes : (n : ℕ) (items : List Item) → (count_of n items ≡ 0 → ⊥) → comes_in n items ≡ true
some_comes n [] some = absurd (some refl)
some_comes n (x ∷ items) some =
    some_by (has_number n x) (count_of n items) (comes_in n items) some (some_comes n items)

-- there are no more than frames
one_at_most : (b : Bool) → cond b 1 0 ≤ 1
one_at_most true = omega arith
one_at_most false = omega arith

pub few_of : (nest : Nesting) (cx : Around) (list : Shape) (n : ℕ) (xs : List Read)
    → count_of n (items_in nest cx list xs) ≤ frame_count xs
few_of nest cx list n [] = omega arith
few_of nest cx list n (Ok f ∷ xs) =
    let first : cond (has_number n (by_row nest cx (row_in cx list (number f)) f)) 1 0 ≤ 1 =
    one_at_most (has_number n (by_row nest cx (row_in cx list (number f)) f)) in
    let others : count_of n (items_in nest cx list xs) ≤ frame_count xs = few_of nest cx list n xs in
    omega (arith, first, others)
few_of nest cx list n (Err c ∷ xs) = omega arith

-- a table of what is left of each number, one attribute further
pub one_less : (x : Item) (m : ℕ) (left : List ℕ) (rest : List Item) → length left ≡ 256 → m < 256
    → number_in x ≡ Some m
    → ((n : ℕ) → n < 256 → slice_index left n ≡ count_of n (x ∷ rest))
    → (n : ℕ) → n < 256 → slice_index (set left m (slice_index left m - 1)) n ≡ count_of n rest
one_less x m left rest size small is told n l =
    let within : m < length left = omega (arith, size, small) in
    let here : slice_index left m ≡ 1 + count_of m rest = told m small ∙ count_first x m rest is in
    let less : slice_index left m - 1 ≡ count_of m rest = omega (arith, here) in
    elim (eqb_tells n m) [
      | inl both ↦ get_or-set_at left m n (slice_index left m - 1) 0 both.1 within ∙ less
          ∙ ap (λ k. count_of k rest) (sym both.1)
      | inr both ↦ get_or-set_other left m n (slice_index left m - 1) 0 both.1
          ∙ told n l ∙ count_other x m n rest is (λ h. both.1 (sym h))
    ]

-- and of what has come
pub one_more : (x : Item) (m : ℕ) (come : List ℕ) (rest all : List Item) → length come ≡ 256 → m < 256
    → number_in x ≡ Some m
    → ((n : ℕ) → n < 256 → slice_index come n + count_of n (x ∷ rest) ≡ count_of n all)
    → (n : ℕ) → n < 256 → slice_index (set come m (slice_index come m + 1)) n + count_of n rest ≡ count_of n all
one_more x m come rest all size small is told n l =
    let within : m < length come = omega (arith, size, small) in
    let was : slice_index come m + count_of m (x ∷ rest) ≡ count_of m all = told m small in
    let first : count_of m (x ∷ rest) ≡ 1 + count_of m rest = count_first x m rest is in
    let now : (slice_index come m + 1) + count_of m rest ≡ count_of m all = omega (arith, was, first) in
    elim (eqb_tells n m) [
      | inl both ↦
          ap (λ k. k + count_of n rest) (get_or-set_at come m n (slice_index come m + 1) 0 both.1 within)
          ∙ ap (λ k. (slice_index come m + 1) + count_of k rest) both.1 ∙ now ∙ ap (λ k. count_of k all) (sym both.1)
      | inr both ↦
          ap (λ k. k + count_of n rest) (get_or-set_other come m n (slice_index come m + 1) 0 both.1)
          ∙ ap (λ k. slice_index come n + k) (sym (count_other x m n rest is (λ h. both.1 (sym h)))) ∙ told n l
    ]

-- ** whether one comes again

-- whether one of its number has come
abbrev pub is_told : List ℕ → Item → Bool
is_told table (Item.named n ms) = not (slice_index table n == 0)
is_told table (Item.as_is name kind payload) = false
is_told table (Item.each n value) = false

-- whether one of them comes again: after those that the table tells, or after another of them
abbrev pub repeats : List ℕ → List Item → Bool
repeats table items = list_any (is_told table) items || are_any (earlier_ones items)

pub none_told : (k n : ℕ) → slice_index (replicate k 0) n ≡ 0
none_told zero n = refl
none_told (suc k) zero = refl
none_told (suc k) (suc n) = none_told k n

pub none_counted : (n : ℕ) → slice_index (replicate 256 0) n ≡ 0
none_counted n = none_told 256 n

none_told_yet : (x : Item) → is_told (replicate 256 0) x ≡ false
none_told_yet (Item.named n ms) = ap not (eq-eqb _ 0 (none_told 256 n))
none_told_yet (Item.as_is name kind payload) = refl
none_told_yet (Item.each n value) = refl

pub none_repeats : (items : List Item)
    → (repeats (replicate 256 0) items || false) ≡ are_any (earlier_ones items)
none_repeats items = or-false _ ∙ ap (λ b. b || are_any (earlier_ones items)) (none items) where
  none : (items : List Item) → list_any (is_told (replicate 256 0)) items ≡ false
  none [] = refl
  none (x ∷ items) = or_from _ _ (none_told_yet x) (none items)

-- one that is kept leaves it so
pub kept_repeats : (x : Item) (table : List ℕ) (rest : List Item) → number_in x ≡ None
    → repeats table rest ≡ repeats table (x ∷ rest)
kept_repeats (Item.named n ms) table rest is = absurd cc
kept_repeats (Item.as_is name kind payload) table rest is = refl
kept_repeats (Item.each n value) table rest is = refl

told_then : (y : Item) (m : ℕ) (table : List ℕ) → m < length table
    → is_told (set table m 1) y ≡ (has_number m y || is_told table y)
told_then (Item.named n ms) m table l = elim (eqb_tells n m) [
  | inl both ↦ ap (λ k. not (k == 0)) (get_or-set_at table m n 1 0 both.1 l)
      ∙ ap (λ b. b || is_told table (Item.named n ms)) (sym both.0)
  | inr both ↦ ap (λ k. not (k == 0)) (get_or-set_other table m n 1 0 both.1)
      ∙ ap (λ b. b || is_told table (Item.named n ms)) (sym both.0)
]
told_then (Item.as_is name kind payload) m table l = refl
told_then (Item.each n value) m table l = refl

crossed : (a b c d : Bool) → ((a || b) || (c || d)) ≡ ((a || c) || (b || d))
crossed true b c d = refl
crossed false true true d = refl
crossed false true false d = refl
crossed false false c d = refl

any_told_then : (m : ℕ) (table : List ℕ) (rest : List Item) → m < length table
    → list_any (is_told (set table m 1)) rest ≡ (comes_in m rest || list_any (is_told table) rest)
any_told_then m table [] l = refl
any_told_then m table (y ∷ rest) l =
    ap (λ b. b || list_any (is_told (set table m 1)) rest) (told_then y m table l)
    ∙ ap (λ b. (has_number m y || is_told table y) || b) (any_told_then m table rest l)
    ∙ crossed (has_number m y) (is_told table y) (comes_in m rest) (list_any (is_told table) rest)

pub any_earlier : (m : ℕ) (ms : Members) (rest : List Item)
    → are_any (earlier_ones (Item.named m ms ∷ rest)) ≡ (comes_in m rest || are_any (earlier_ones rest))
any_earlier m ms rest = by_cases (comes_in m rest) where
  by_cases : (b : Bool) → are_any (cond b (ms ∷ []) [] ++ earlier_ones rest) ≡ (b || are_any (earlier_ones rest))
  by_cases true = refl
  by_cases false = refl

shuffled : (told comes some earlier before : Bool)
    → (((comes || some) || earlier) || (before || told)) ≡ (((told || some) || (comes || earlier)) || before)
shuffled true true some earlier before = refl
shuffled true false true earlier before = refl
shuffled true false false true before = refl
shuffled true false false false true = refl
shuffled true false false false false = refl
shuffled false true true earlier before = refl
shuffled false true false earlier before = refl
shuffled false false true earlier before = refl
shuffled false false false true before = refl
shuffled false false false false true = refl
shuffled false false false false false = refl

-- one that has a name is told from then on
pub named_repeats : (x : Item) (m : ℕ) (table : List ℕ) (rest : List Item) (before : Bool) → m < length table
    → number_in x ≡ Some m
    → (repeats (set table m 1) rest || (before || not (slice_index table m == 0)))
    ≡ (repeats table (x ∷ rest) || before)
named_repeats (Item.named n ms) m table rest before l is =
    let same : n ≡ m = cc in
    ap (λ b. (b || are_any (earlier_ones rest)) || (before || not (slice_index table m == 0)))
    (any_told_then m table rest l)
    ∙ shuffled (is_told table (Item.named m ms)) (comes_in m rest) (list_any (is_told table) rest)
    (are_any (earlier_ones rest)) before
    ∙ ap (λ b. ((is_told table (Item.named m ms) || list_any (is_told table) rest) || b) || before)
    (sym (any_earlier m ms rest))
    ∙ ap (λ k. repeats table (Item.named k ms ∷ rest) || before) (sym same)
named_repeats (Item.as_is name kind payload) m table rest before l is = absurd cc
named_repeats (Item.each n value) m table rest before l is = absurd cc

-- where none comes again, all that have a name are the last ones
all_last : (items : List Item) → are_any (earlier_ones items) ≡ false → last_ones items ≡ flat_map shown_as items
all_last [] none = refl
all_last (Item.named n ms ∷ items) none =
    let both = or_parts (comes_in n items) (are_any (earlier_ones items)) (sym (any_earlier n ms items) ∙ none) in
    ap (λ b. cond b [] ms ++ last_ones items) both.0 ∙ ap (λ l. ms ++ l) (all_last items both.1)
all_last (Item.as_is name kind payload ∷ items) none = all_last items none
all_last (Item.each n value ∷ items) none = all_last items none

-- a list of none is not told
pub none_under : (name : List ℕ) (os : List Members) → are_any os ≡ false → list_under name (map object_of os) ≡ []
none_under name [] none = refl
none_under name (o ∷ os) none = absurd cc

pub all_shown : (lists : Lists) (items : List Item) → are_any (earlier_ones items) ≡ false
    → flat_map shown_as items ++ arrays lists items
    ≡ last_ones items ++ arrays lists items ++ list_under (codes "repeated") (map object_of (earlier_ones items))
all_shown lists items none =
    ap (λ l. l ++ arrays lists items) (sym (all_last items none))
    ∙ sym (append-nil (last_ones items ++ arrays lists items))
    ∙ ap (λ l. last_ones items ++ arrays lists items ++ l)
    (sym (none_under (codes "repeated") (earlier_ones items) none))

-- whether one of them is kept, one attribute further
pub any_kept_then : (x : Item) (rest : List Item) (before : Bool)
    → (are_any (kept_ones rest) || (before || are_any (kept_ones (x ∷ []))))
    ≡ (are_any (kept_ones (x ∷ rest)) || before)
any_kept_then (Item.named n ms) rest before = ap (λ b. are_any (kept_ones rest) || b) (or-false before)
any_kept_then (Item.each n value) rest before = ap (λ b. are_any (kept_ones rest) || b) (or-false before)
any_kept_then (Item.as_is name kind payload) rest before =
    ap (λ b. are_any (kept_ones rest) || b) (or-true before) ∙ or-true (are_any (kept_ones rest))

pub named_any : (x : Item) (n : ℕ) (rest : List Item) → number_in x ≡ Some n
    → are_any (kept_ones (x ∷ rest)) ≡ are_any (kept_ones rest)
named_any (Item.named m ms) n rest is = refl
named_any (Item.as_is name kind payload) n rest is = absurd cc
named_any (Item.each m value) n rest is = absurd cc

-- whether one of them is a value, one attribute further
turned : (a b c : Bool) → (c || (b || a)) ≡ ((a || c) || b)
turned true true true = refl
turned true true false = refl
turned true false true = refl
turned true false false = refl
turned false true true = refl
turned false true false = refl
turned false false true = refl
turned false false false = refl

pub any_value_then : (x : Item) (rest : List Item) (before : Bool)
    → (list_any is_value rest || (before || is_value x)) ≡ (list_any is_value (x ∷ rest) || before)
any_value_then x rest before = turned (is_value x) before (list_any is_value rest)

pub named_value : (x : Item) (n : ℕ) (rest : List Item) → number_in x ≡ Some n
    → list_any is_value (x ∷ rest) ≡ list_any is_value rest
named_value (Item.named m ms) n rest is = refl
named_value (Item.as_is name kind payload) n rest is = absurd cc
named_value (Item.each m value) n rest is = absurd cc

-- ** lists

none_with : (n : ℕ) (items : List Item) → list_any is_value items ≡ false → values_with n items ≡ []
none_with n [] none = refl
none_with n (Item.named m ms ∷ items) none = none_with n items none
none_with n (Item.as_is name kind payload ∷ items) none = none_with n items none
none_with n (Item.each m value ∷ items) none = absurd cc

-- where there is no value no list is told
pub no_arrays : (lists : Lists) (items : List Item) → list_any is_value items ≡ false → arrays lists items ≡ []
no_arrays [] items none = refl
no_arrays (l ∷ lists) items none =
    ap (λ vs. list_under l.1 vs ++ arrays lists items) (none_with l.0 items none) ∙ no_arrays lists items none

pub elements_values : (vs : List (List Token)) → flat_map (λ m. m.1) (elements vs) ≡ flat_map (λ v. v) vs
elements_values [] = refl
elements_values (v ∷ vs) = ap (λ l. v ++ l) (elements_values vs)

-- a list of values that was begun, filled and ended
pub array_shown : (name : List ℕ) (vs : List (List Token)) (old last new : Draft) → are_any vs ≡ true
    → last ≡ with_members (elements vs) (with_begun name Items old) → Ends last new
    → new ≡ with_members (list_under name vs) old
array_shown name vs old last new any is ends =
    list_shown name vs (elements vs) old last new any (elements_values vs) is ends
