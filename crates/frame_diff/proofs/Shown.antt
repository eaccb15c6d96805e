-- The members of a list of attributes are what is shown of it.
use Rattle.std.proofs.Common.{◌≡◌, ℕ, zero, suc, Bool, true, false, List, [], ◌∷◌, ◌++◌, map, refl, sym, ap, subst}
use Rattle.std.proofs.Common.{◌∙◌, append_assoc, eq-eqb, eqb-true, length}
use Rattle.std.specs.Prelude.{Option, Some, None, cond, ◌==◌, ◌||◌}
use Rattle.std.specs.List.{AllByRecursion, flat_map}
use Rattle.json.specs.Token.{Token}
use Rattle.nla_wire.specs.Frames.{Frame, number}
use Rattle.nla_wire.specs.Items.{items}
use Rattle.link_info.specs.Tables.{frames_in}
use Rattle.shown.specs.Drafts.{Members, list_of, object_of}
use Rattle.frame_shown.specs.Frames.{frame_item, items_in, levels, way_shown}
use Rattle.frame_shown.specs.Items.{Item, comes_in, earlier_ones, has_number, kept_ones, last_ones, list_under}
use Rattle.frame_shown.specs.Items.{Lists, arrays, members_of, values_with as shown_values}
use Rattle.frame_shown.specs.Kept.{frame_members}
use Rattle.frame_shown.specs.Tables.{Known, is_kept, kind_shown, row_in, is_each, lists_in}
use Rattle.frame_shown.specs.declared.form.Around.{Around}
use Rattle.frame_shown.specs.declared.form.List.{List as Shape}
use Rattle.frame_diff.specs.Counters.{action_in}
use Rattle.frame_diff.specs.Forests.{Forest, Held, Member, Step, comes, field_step, forest, is_step, is_text}
use Rattle.frame_diff.specs.Items.{step_text}
use Rattle.frame_diff.specs.Labels.{labelled, labels_of}
use Rattle.frame_shown.specs.Values.{Nesting}
use Rattle.frame_diff.specs.Members.{Inner, Reading, alone, as_object, earlier, fields, held_by, inner_by, kept_in}
use Rattle.frame_diff.specs.Members.{array_at, arrays_in, arrays_of, inside_with, values_with}
use Rattle.frame_diff.specs.Members.{list_at, members_in, named, named_in, placed, places, reading}
use Rattle.frame_diff.specs.Members.{is_some, kept_inside, kept_with, list_by, numbers_by, unless_none, value_in}
use Rattle.frame_diff.specs.Shown.{AreNamedApart, HasNamesApart, MembersAreShown, shown_in, AreListsApart}
use Rattle.frame_diff.specs.declared.keys.Key.{Key}
use Rattle.frame_diff.specs.declared.keys.Key.TheVariants as Keys
use Rattle.frame_diff.specs.declared.labels.Label.{Label}
use Rattle.frame_diff.proofs.Parts.{NoneComes, both_lack, comes_append, array_apart, arrays_arrays, arrays_lack}
use Rattle.frame_diff.proofs.Parts.{names_lack_arrays, named_names}
use Rattle.frame_diff.proofs.Numbered.{labels_long, numbers_long}
use Rattle.frame_diff.proofs.Steps.{text_is, text_same}
use Rattle.frame_diff.proofs.Values.{AreValues, texts_are, values_agree}
use Rattle.frame_diff.specs.Members.{is_own_key}

-- ** members behind which none of their step stands

abbrev pub lasts : List Member → Members
lasts [] = []
lasts (m ∷ ms) = cond (comes m.0 ms) [] ((step_text m.0, m.1.0) ∷ []) ++ lasts ms

forest_shows : (ms : List Member) → shown_in (forest ms) ≡ lasts ms
forest_shows [] = refl
forest_shows (m ∷ ms) = by (comes m.0 ms) (forest_shows ms)
  where
    by : (b : Bool) → shown_in (forest ms) ≡ lasts ms
        → shown_in (cond b (forest ms) (Forest.tree m.0 m.1.0 m.1.1 (forest ms)))
        ≡ cond b [] ((step_text m.0, m.1.0) ∷ []) ++ lasts ms
    by true later = later
    by false later = ap (λ l. (step_text m.0, m.1.0) ∷ l) later

lasts_append : (xs ys : List Member) → NoneComes xs ys → lasts (xs ++ ys) ≡ lasts xs ++ lasts ys
lasts_append [] ys none = refl
lasts_append (x ∷ xs) ys none =
    (λ k. cond (comes_append x.0 xs ys none.0 k) [] ((step_text x.0, x.1.0) ∷ []) ++ lasts_append xs ys none.1 k)
    ∙ sym (append_assoc (cond (comes x.0 xs) [] ((step_text x.0, x.1.0) ∷ [])) (lasts xs) (lasts ys))

-- ** a list of values at a step

some_tree : (s : Step) (v : List Token) (m : Member) (ms : List Member)
    → lasts (unless_none s v (forest (m ∷ ms))) ≡ (step_text s, v) ∷ []
some_tree s v m [] = refl
some_tree s v m (n ∷ ms) = by (comes m.0 (n ∷ ms)) (some_tree s v n ms)
  where
    by : (b : Bool) → lasts (unless_none s v (forest (n ∷ ms))) ≡ (step_text s, v) ∷ []
        → lasts (unless_none s v (cond b (forest (n ∷ ms)) (Forest.tree m.0 m.1.0 m.1.1 (forest (n ∷ ms)))))
        ≡ (step_text s, v) ∷ []
    by true later = later
    by false later = refl

-- they are those objects, one each
abbrev pub AreObjects : List (Option Held) → List Members → Type 0
AreObjects [] [] = Unit {0}
AreObjects [] (o ∷ os) = ⊥
AreObjects (h ∷ hs) [] = ⊥
AreObjects (None ∷ hs) (o ∷ os) = ⊥
AreObjects (Some held ∷ hs) (o ∷ os) = (held.0 ≡ object_of o) × AreObjects hs os

values_are : (hs : List (Option Held)) (os : List Members) → AreObjects hs os
    → flat_map value_in hs ≡ flat_map (λ tokens. tokens) (map object_of os)
values_are [] [] h = refl
values_are [] (o ∷ os) h = absurd h
values_are (x ∷ hs) [] h = absurd h
values_are (None ∷ hs) (o ∷ os) h = absurd h
values_are (Some held ∷ hs) (o ∷ os) h = (λ k. h.0 k ++ values_are hs os h.1 k)

-- there is a member inside where there is a value
list_is : (s : Step) (hs : List (Option Held)) (ms : List Member) (os : List Members) → AreObjects hs os
    → is_some ms ≡ is_some hs → lasts (list_by s hs (forest ms)) ≡ list_under (step_text s) (map object_of os)
list_is s [] [] [] h some = refl
list_is s [] (m ∷ ms) [] h some = absurd cc
list_is s [] ms (o ∷ os) h some = absurd h
list_is s (x ∷ hs) ms [] h some = absurd h
list_is s (None ∷ hs) ms (o ∷ os) h some = absurd h
list_is s (Some held ∷ hs) [] (o ∷ os) h some = absurd cc
list_is s (Some held ∷ hs) (m ∷ ms) (o ∷ os) h some =
    some_tree s (list_of (flat_map value_in (Some held ∷ hs))) m ms
    ∙ ap (λ values. (step_text s, list_of values) ∷ []) (values_are (Some held ∷ hs) (o ∷ os) h)

places_some : (hs : List (Option Held)) (os : List Members) → AreObjects hs os → is_some (placed 0 hs) ≡ is_some hs
places_some [] os h = refl
places_some (x ∷ hs) [] h = absurd h
places_some (None ∷ hs) (o ∷ os) h = absurd h
places_some (Some held ∷ hs) (o ∷ os) h = refl

labels_some : (key : Key) (ls : List Label) (hs : List (Option Held)) (os : List Members) → AreObjects hs os
    → length ls ≡ length hs → is_some (labelled key ls hs) ≡ is_some hs
labels_some key [] [] os h long = refl
labels_some key (l ∷ ls) [] os h long = refl
labels_some key [] (x ∷ hs) os h long = absurd cc
labels_some key (l ∷ ls) (x ∷ hs) [] h long = absurd h
labels_some key (l ∷ ls) (None ∷ hs) (o ∷ os) h long = absurd h
labels_some key (l ∷ ls) (Some held ∷ hs) (o ∷ os) h long = refl

-- ** a list that attributes are the values of

array_is : (name : List ℕ) (own : Bool) (hs : List (Option Held)) (inside : Forest) (vs : List (List Token))
    → AreValues hs vs → lasts (array_at name own hs inside) ≡ list_under name vs
array_is name own [] inside [] h = refl
array_is name own [] inside (v ∷ vs) h = absurd h
array_is name own (x ∷ hs) inside [] h = absurd h
array_is name own (x ∷ hs) inside (v ∷ vs) h =
    ap (λ values. (name, list_of values) ∷ []) (texts_are (x ∷ hs) (v ∷ vs) h)

-- ** attributes by name and by number

or_is : (b x : Bool) → cond b true x ≡ (b || x)
or_is true x = refl
or_is false x = refl

module _ (nest : Nesting) (inner : Inner) (cx : Around) (list : Shape) (apart : HasNamesApart cx list) where
  abbrev r : Reading
  r = record { is_state = false; nest = nest; inner = inner; around = cx }

  -- the row of an attribute, whether it is kept, whether it is a value of a list, and what it is in both
  abbrev row : Frame → Known
  row f = row_in cx list (number f)

  abbrev kept : Frame → Bool
  kept f = is_kept (row f).1 f.payload

  abbrev each : Frame → Bool
  each f = is_each (row f).1

  abbrev ours : Frame → Bool → List Member
  ours f b = cond b [] ((Step.name (row f).0, held_by r (action_in false list (number f)) (row f).1 f.payload) ∷ [])

  abbrev theirs : Frame → Bool → Bool → Item
  theirs f b c =
      cond b (Item.as_is (row f).0 (kind_shown (row f).1 f.kind) f.payload)
      (cond c (Item.each (number f) (way_shown nest cx (row f).1 f.payload))
      (Item.named (number f) (((row f).0, way_shown nest cx (row f).1 f.payload) ∷ [])))

  abbrev all : List Frame → List Item
  all fs = map (frame_item nest cx list) fs

  -- two have one name where they have one number
  names_agree : (f g : Frame) → kept f ≡ false → kept g ≡ false
      → is_text (row g).0 (row f).0 ≡ (number g == number f)
  names_agree f g named named_too = by (is_text (row g).0 (row f).0) (number g == number f) refl refl
    where
      by : (b c : Bool) → is_text (row g).0 (row f).0 ≡ b → (number g == number f) ≡ c → b ≡ c
      by true true h k = refl
      by false false h k = refl
      by true false h k =
          let same : number g ≡ number f =
          apart.numbers (number g) (number f) g.payload f.payload named_too named
          (text_same (row g).0 (row f).0 h) in
          sym (eq-eqb (number g) (number f) same) ∙ k
      by false true h k =
          let same : number g ≡ number f = eqb-true (number g) (number f) k in
          sym h ∙ ap (λ m. is_text (row_in cx list m).0 (row f).0) same ∙ text_is (row f).0

  comes_agree : (f : Frame) (gs : List Frame) → kept f ≡ false
      → comes (Step.name (row f).0) (named_in r list gs) ≡ comes_in (number f) (all gs)
  comes_agree f [] named = refl
  comes_agree f (g ∷ gs) named = by (kept g) (each g) refl (comes_agree f gs named)
    where
      by : (b c : Bool) → kept g ≡ b
          → comes (Step.name (row f).0) (named_in r list gs) ≡ comes_in (number f) (all gs)
          → comes (Step.name (row f).0) (ours g (b || c) ++ named_in r list gs)
          ≡ (has_number (number f) (theirs g b c) || comes_in (number f) (all gs))
      by true c is later = later
      by false true is later = later
      by false false is later =
          (λ k. cond (names_agree f g named is k) true (later k))
          ∙ or_is (number g == number f) (comes_in (number f) (all gs))

  lasts_agree : (fs : List Frame) → lasts (named_in r list fs) ≡ last_ones (all fs)
  lasts_agree [] = refl
  lasts_agree (f ∷ fs) = by (kept f) (each f) refl (lasts_agree fs)
    where
      by : (b c : Bool) → kept f ≡ b → lasts (named_in r list fs) ≡ last_ones (all fs)
          → lasts (ours f (b || c) ++ named_in r list fs) ≡ last_ones (theirs f b c ∷ all fs)
      by true c is later = later
      by false true is later = later
      by false false is later =
          (λ k. cond (comes_agree f fs is k) [] (((row f).0, way_shown nest cx (row f).1 f.payload) ∷ []) ++ later k)

  earlier_agree : (fs : List Frame) → AreObjects (earlier (named_in r list fs)) (earlier_ones (all fs))
  earlier_agree [] = tt
  earlier_agree (f ∷ fs) = by (kept f) (each f) refl (earlier_agree fs)
    where
      m : Member
      m = (Step.name (row f).0, held_by r (action_in false list (number f)) (row f).1 f.payload)

      ms : Members
      ms = ((row f).0, way_shown nest cx (row f).1 f.payload) ∷ []

      one : (c : Bool) → AreObjects (earlier (named_in r list fs)) (earlier_ones (all fs))
          → AreObjects (cond c (alone m ∷ []) [] ++ earlier (named_in r list fs))
          (cond c (ms ∷ []) [] ++ earlier_ones (all fs))
      one true later = (refl, later)
      one false later = later

      by : (b c : Bool) → kept f ≡ b → AreObjects (earlier (named_in r list fs)) (earlier_ones (all fs))
          → AreObjects (earlier (ours f (b || c) ++ named_in r list fs)) (earlier_ones (theirs f b c ∷ all fs))
      by true c is later = later
      by false true is later = later
      by false false is later =
          subst (λ c. AreObjects (cond c (alone m ∷ []) [] ++ earlier (named_in r list fs))
          (cond (comes_in (number f) (all fs)) (ms ∷ []) [] ++ earlier_ones (all fs))) (sym (comes_agree f fs is))
          (one (comes_in (number f) (all fs)) later)

  kept_agree : (fs : List Frame) → AreObjects (kept_in r list fs) (kept_ones (all fs))
  kept_agree [] = tt
  kept_agree (f ∷ fs) = by (kept f) (each f) (kept_agree fs)
    where
      by : (b c : Bool) → AreObjects (kept_in r list fs) (kept_ones (all fs))
          → AreObjects (cond b (Some (as_object (frame_members (row f).0 (kind_shown (row f).1 f.kind) f.payload)) ∷ [])
          [] ++ kept_in r list fs) (kept_ones (theirs f b c ∷ all fs))
      by true c later = (refl, later)
      by false true later = later
      by false false later = later

  -- the values of lists
  arrays_agree : (lists : Lists) → AreListsApart lists → (fs : List Frame)
      → lasts (arrays_of r list lists fs) ≡ arrays lists (all fs)
  arrays_agree [] apart fs = refl
  arrays_agree (l ∷ lists) apart fs =
      let hs = values_with r list l.0 fs in
      let inside = inside_with r list l.0 fs in
      let own = is_own_key (Some l.0) list in
      lasts_append (array_at l.1 own hs inside) (arrays_of r list lists fs)
      (array_apart r list l.1 own hs inside lists fs apart.0)
      ∙ (λ k. array_is l.1 own hs inside (shown_values l.0 (all fs)) (values_agree false nest inner cx list l.0 fs) k
      ++ arrays_agree lists apart.1 fs k)

  -- no name is one of the two lists
  list_lacks : (name : List ℕ) (s : Step) (v : List Token) (i : Forest) → is_step s (Step.name name) ≡ false
      → comes (Step.name name) (unless_none s v i) ≡ false
  list_lacks name s v Forest.none other = refl
  list_lacks name s v Forest.passed other = refl
  list_lacks name s v (Forest.vlans runs) other = refl
  list_lacks name s v (Forest.texts vs) other = refl
  list_lacks name s v (Forest.tree a b c d) other = ap (λ x. cond x true false) other

  none_comes : (fs : List Frame) (s : Step) (hs : List (Option Held)) (i : Forest)
      → ((name : List ℕ) → is_step s (Step.name name) ≡ false) → NoneComes (named_in r list fs) (list_by s hs i)
  none_comes [] s hs i other = tt
  none_comes (f ∷ fs) s hs i other = by (kept f || each f) (none_comes fs s hs i other)
    where
      by : (b : Bool) → NoneComes (named_in r list fs) (list_by s hs i)
          → NoneComes (ours f b ++ named_in r list fs) (list_by s hs i)
      by true later = later
      by false later = (list_lacks (row f).0 s _ i (other (row f).0), later)

  repeated_lacks : (v w : List Token) (i j : Forest)
      → NoneComes (unless_none Step.repeated v i) (unless_none Step.other w j)
  repeated_lacks v w Forest.none j = tt
  repeated_lacks v w Forest.passed j = tt
  repeated_lacks v w (Forest.vlans runs) j = tt
  repeated_lacks v w (Forest.texts vs) j = tt
  repeated_lacks v w (Forest.tree a b c d) Forest.none = (refl, tt)
  repeated_lacks v w (Forest.tree a b c d) Forest.passed = (refl, tt)
  repeated_lacks v w (Forest.tree a b c d) (Forest.vlans runs) = (refl, tt)
  repeated_lacks v w (Forest.tree a b c d) (Forest.texts vs) = (refl, tt)
  repeated_lacks v w (Forest.tree a b c d) (Forest.tree e f g h) = (refl, tt)

  pub members_shown : (fs : List Frame)
      → shown_in (forest (members_in r list fs)) ≡ members_of (lists_in cx list) (all fs)
  members_shown fs =
      let ms = named_in r list fs in
      let lists = arrays_in r list fs in
      let are = arrays_arrays r list (lists_in cx list) fs in
      let again = list_at Step.repeated (earlier ms) in
      let hs = kept_in r list fs in
      let inside = kept_inside r list fs in
      let ns = numbers_by (λ f. Some (number f)) (kept_with r list) fs in
      let others = list_by Step.other hs inside in
      forest_shows (members_in r list fs)
      ∙ lasts_append (ms ++ lists ++ again) others (both_lack (ms ++ lists) again others
      (both_lack ms lists others (none_comes fs Step.other hs inside (λ name. refl))
      (arrays_lack lists Step.other hs inside are (λ name. (refl, refl))))
      (repeated_lacks _ _ (places (earlier ms)) inside))
      ∙ ap (λ l. l ++ lasts others) (lasts_append (ms ++ lists) again
      (both_lack ms lists again (none_comes fs Step.repeated (earlier ms) (places (earlier ms)) (λ name. refl))
      (arrays_lack lists Step.repeated (earlier ms) (places (earlier ms)) are (λ name. (refl, refl)))))
      ∙ ap (λ l. l ++ lasts again ++ lasts others)
      (lasts_append ms lists (names_lack_arrays ms lists (named_names r list fs) are))
      ∙ (λ k. lasts_agree fs k ++ arrays_agree (lists_in cx list) apart.lists fs k
      ++ list_is Step.repeated (earlier ms) (placed 0 (earlier ms)) (earlier_ones (all fs)) (earlier_agree fs)
      (places_some (earlier ms) (earlier_ones (all fs)) (earlier_agree fs)) k
      ++ list_is Step.other hs (labelled Keys.Number (labels_of ns) hs) (kept_ones (all fs)) (kept_agree fs)
      (labels_some Keys.Number (labels_of ns) hs (kept_ones (all fs)) (kept_agree fs)
      (labels_long [] ns ∙ numbers_long (λ f. Some (number f)) (kept_with r list) fs)) k)

pub lists_shown : (n : ℕ) (cx : Around) (list : Shape) (p : List ℕ) → HasNamesApart cx list
    → shown_in (forest (members_in (reading n false cx) list (frames_in (items p))))
    ≡ members_of (lists_in cx list) (items_in (levels n cx) cx list (items p))
lists_shown zero cx list p apart =
    members_shown (levels 0 cx) (λ list p. Forest.none) cx list apart (frames_in (items p))
lists_shown (suc n) cx list p apart =
    members_shown (levels (suc n) cx) (inner_by (reading n false cx)) cx list apart (frames_in (items p))

-- ** fields

fields_shown : (ms : Members) → AreNamedApart ms → shown_in (fields ms) ≡ ms
fields_shown ms apart = forest_shows (named ms) ∙ all ms apart
  where
    lacks : (name : List ℕ) (ns : Members) → AllByRecursion (λ n. is_text n.0 name ≡ false) ns
        → comes (field_step name) (named ns) ≡ false
    lacks name [] h = refl
    lacks name (n ∷ ns) h = (λ k. cond (h.0 k) true (lacks name ns h.1 k))

    all : (ns : Members) → AreNamedApart ns → lasts (named ns) ≡ ns
    all [] h = refl
    all (n ∷ ns) h =
        (λ k. cond (lacks n.0 ns h.0 k) [] (n ∷ []) ++ all ns h.1 k)

-- members of which none of the first ones stands at a step of the others
pub parts_shown : (xs ys : List Member) → NoneComes xs ys
    → shown_in (forest (xs ++ ys)) ≡ shown_in (forest xs) ++ shown_in (forest ys)
parts_shown xs ys none =
    forest_shows (xs ++ ys) ∙ lasts_append xs ys none ∙ sym (λ k. forest_shows xs k ++ forest_shows ys k)

pub members_are : MembersAreShown
members_are = record { lists = lists_shown; fields_of = fields_shown }
