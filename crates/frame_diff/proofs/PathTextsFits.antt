-- What is inside a payload is of the sort that its row says, where the lists inside it are of theirs.
use Rattle.std.proofs.Common.{◌≡◌, ℕ, ◌+◌, ◌<◌, ◌≤◌, ◌^◌, Bool, true, false, List, [], ◌∷◌, ◌++◌, map, arith, length}
use Rattle.std.proofs.Common.{inl, inr, length-append, ltb-true, refl, sym, subst}
use Rattle.std.proofs.lemmas.Bool.{and_parts}
use Rattle.std.proofs.lemmas.List.{length-map}
use Rattle.std.specs.Prelude.{Option, Some, None, Result, Ok, Err, codes, cond, nat_lt, ◌==◌}
use Rattle.std.specs.List.{AllByRecursion, flat_map}
use Rattle.json.specs.Token.{Token}
use Rattle.nla_wire.specs.Frames.{Frame, number}
use Rattle.nla_wire.specs.Items.{items}
use Rattle.nla_wire.specs.Payloads.{text}
use Rattle.nla_wire.specs.declared.error.Cause.{Cause}
use Rattle.nla_wire.proofs.Items.{items_case}
use Rattle.nla_wire.proofs.Steps.{step_shorter, step_size}
use Rattle.link_info.specs.Meanings.{Meaning, Raw, read_as, Members as Fields, Elements, Listed, Nested, form_meaning}
use Rattle.link_info.specs.Meanings.{text_or_bytes}
use Rattle.link_info.specs.Styles.{are_frames, are_frames_of, is_multiple, plain_size, record_size, Form as Spelling}
use Rattle.link_info.specs.Styles.{Host, form}
use Rattle.link_info.specs.Tables.{frames_in}
use Rattle.link_info.specs.declared.style.Element.TheVariants as E
use Rattle.link_info.specs.declared.style.Style.{Style}
use Rattle.link_info.specs.declared.style.Style.TheVariants as S
use Rattle.link_state.specs.Table.{Action}
use Rattle.shown.specs.Drafts.{Members}
use Rattle.frame_shown.specs.Values.{behind_settings, counter_names, counter_width, counters_shown, event_in, fields_in}
use Rattle.frame_shown.specs.Values.{fields_shown, hexadecimal, info_of, ipv6_named, record_shown, setting_names}
use Rattle.frame_shown.specs.Values.{settings_shown}
use Rattle.frame_shown.specs.Tables.{row_in}
use Rattle.frame_shown.specs.declared.form.Around.{Around}
use Rattle.frame_shown.specs.declared.form.Form.{Form}
use Rattle.frame_shown.specs.declared.form.Form.TheVariants as Forms
use Rattle.frame_shown.specs.declared.form.List.{List as Shape}
use Rattle.frame_shown.specs.declared.form.List.TheVariants as Shapes
use Rattle.frame_shown.specs.declared.form.Order.{Order}
use Rattle.frame_shown.specs.declared.form.Order.TheVariants as Orders
use Rattle.frame_shown.specs.declared.form.Way.{Way}
use Rattle.frame_shown.specs.declared.form.Way.TheVariants as Ways
use Rattle.link_vlans.proofs.Say.{small}
use Rattle.link_vlans.specs.Pieces.{vlans_of}
use Rattle.link_vlans.specs.Runs.{are_apart}
use Rattle.link_vlans.specs.declared.run.Run.{Run}
use Rattle.link_vlans.specs.declared.run.Said.{Said}
use Rattle.frame_diff.specs.Counters.{fields_left, is_clear}
use Rattle.frame_diff.specs.Forests.{Forest, Held, Member, Step, comes, forest, is_number, left_of}
use Rattle.frame_diff.specs.Items.{step_text}
use Rattle.frame_diff.specs.Keys.{bounded, key_name, number_in, number_said}
use Rattle.frame_diff.specs.Labels.{count, keyed, label_step, labelled, labels_behind, labels_of}
use Rattle.frame_diff.specs.Members.{Inner, fields, fields_kept, form_inside, held_inside, inside_of, ipv6_inside}
use Rattle.frame_diff.specs.Members.{is_some, meaning_inside, named, numbers_by, placed, placed_one, places}
use Rattle.frame_diff.specs.Members.{unless_none}
use Rattle.frame_diff.specs.Members.{are_plain, runs_or, values_inside, way_inside}
use Rattle.frame_diff.specs.Vlans.{flat, runs_flat, vlan_fields, vlan_label, vlan_trees}
use Rattle.frame_diff.specs.declared.keys.Key.{Key}
use Rattle.frame_diff.specs.declared.keys.Key.TheVariants as Keys
use Rattle.frame_diff.specs.declared.labels.Label.{Label}
use Rattle.frame_diff.proofs.PathTexts.{IsBounded, IsWritten, Sort, Stands, Whose, lacks_marks, place_within, within}
use Rattle.frame_diff.proofs.PathTextsNames.{form_fits, info_known, is_known, is_same, is_values, same_sort, sort_of}
use Rattle.frame_diff.proofs.PathTextsNames.{style_fits, way_fits, whose_place}
use Rattle.frame_diff.specs.Members.{flat_inside}

-- ** members of a sort

-- VLANs are values
abbrev pub Fits : Sort → Forest → Type 0
Fits sort Forest.none = Unit {0}
Fits sort Forest.passed = Unit {0}
Fits sort (Forest.vlans runs) = (are_apart None runs ≡ true) × (is_values sort ≡ true)
Fits sort (Forest.texts vs) = Unit {0}
Fits sort (Forest.tree s v i rest) = Stands sort s × Fits (within sort (step_text s)) i × Fits sort rest

abbrev pub AllFit : Sort → List Member → Type 0
AllFit sort [] = Unit {0}
AllFit sort (m ∷ ms) = Stands sort m.0 × Fits (within sort (step_text m.0)) m.1.1 × AllFit sort ms

pub forest_fits : (sort : Sort) (ms : List Member) → AllFit sort ms → Fits sort (forest ms)
forest_fits sort [] h = tt
forest_fits sort (m ∷ ms) h = by (comes m.0 ms) (forest_fits sort ms h.2)
  where
    by : (b : Bool) → Fits sort (forest ms)
        → Fits sort (cond b (forest ms) (Forest.tree m.0 m.1.0 m.1.1 (forest ms)))
    by true later = later
    by false later = (h.0, h.1, later)

pub left_fits : (sort : Sort) (is_any : Bool) (ms : List Member) → AllFit sort ms → Fits sort (left_of is_any ms)
left_fits sort true [] h = tt
left_fits sort false [] h = tt
left_fits sort is_any (m ∷ ms) h = forest_fits sort (m ∷ ms) h

pub append_fits : (sort : Sort) (xs ys : List Member) → AllFit sort xs → AllFit sort ys → AllFit sort (xs ++ ys)
append_fits sort [] ys h k = k
append_fits sort (x ∷ xs) ys h k = (h.0, h.1, append_fits sort xs ys h.2 k)

-- ** fields

pub named_fits : (ms : Members) → AllFit Sort.fields (named ms)
named_fits [] = tt
named_fits (m ∷ ms) = (refl, tt, named_fits ms)

pub fields_fit : (ms : Members) → Fits Sort.fields (fields ms)
fields_fit ms = forest_fits Sort.fields (named ms) (named_fits ms)

kept_fields_fit : (action : Action) (sizes : List ℕ) (ms : Members) → Fits Sort.fields (fields_kept action sizes ms)
kept_fields_fit action sizes ms =
    let left = fields_left action 0 sizes ms in left_fits Sort.fields (is_some ms) (named left) (named_fits left)

-- ** values in a list

abbrev pub HeldFit : Sort → List (Option Held) → Type 0
HeldFit sort [] = Unit {0}
HeldFit sort (None ∷ hs) = HeldFit sort hs
HeldFit sort (Some held ∷ hs) = Fits sort held.1 × HeldFit sort hs

pub held_append : (sort : Sort) (xs ys : List (Option Held)) → HeldFit sort xs → HeldFit sort ys
    → HeldFit sort (xs ++ ys)
held_append sort [] ys h k = k
held_append sort (None ∷ xs) ys h k = held_append sort xs ys h k
held_append sort (Some held ∷ xs) ys h k = (h.0, held_append sort xs ys h.1 k)

placed_fit : (sort : Sort) (n : ℕ) (hs : List (Option Held)) → n + length hs < 2 ^ 64 → HeldFit sort hs
    → AllFit (Sort.values sort) (placed n hs)
placed_fit sort n [] few h = tt
placed_fit sort n (None ∷ hs) few h = placed_fit sort (n + 1) hs (omega (arith, few)) h
placed_fit sort n (Some held ∷ hs) few h =
    append_fits (Sort.values sort) (placed_one n (Some held)) (placed (n + 1) hs) (
      inl (n, omega (arith, few), refl),
      subst (λ s. Fits s held.1) (sym (place_within sort n (omega (arith, few)))) h.0,
      tt,
    )
    (placed_fit sort (n + 1) hs (omega (arith, few)) h.1)

pub places_fit : (sort : Sort) (hs : List (Option Held)) → length hs < 2 ^ 64 → HeldFit sort hs
    → Fits (Sort.values sort) (places hs)
places_fit sort hs few h =
    forest_fits (Sort.values sort) (placed 0 hs) (placed_fit sort 0 hs (omega (arith, few)) h)

pub inside_fit : (sort : Sort) (own : Bool) (hs : List (Option Held)) (inside : Forest)
    → Fits (Sort.values sort) inside → Fits (Sort.values sort) (values_inside own hs inside)
inside_fit sort own hs inside h = by (are_plain hs) own
  where
    by : (b own : Bool) → Fits (Sort.values sort) (cond b (flat_inside own hs) inside)
    by true true = tt
    by true false = tt
    by false own = h

pub unless_fits : (sort : Sort) (s : Step) (v : List Token) (f : Forest) → Stands sort s
    → Fits (within sort (step_text s)) f → AllFit sort (unless_none s v f)
unless_fits sort s v Forest.none is h = tt
unless_fits sort s v Forest.passed is h = tt
unless_fits sort s v (Forest.vlans runs) is h = tt
unless_fits sort s v (Forest.texts vs) is h = tt
unless_fits sort s v (Forest.tree a b c d) is h = (is, h, tt)

-- at most one value of each
pub few_each : {X : Type 0} (F : X → List (Option Held)) (xs : List X) → ((x : X) → length (F x) ≤ 1)
    → length (flat_map F xs) ≤ length xs
few_each F [] one = omega arith
few_each F (x ∷ xs) one = omega (arith, one x, few_each F xs one, length-append (F x) (flat_map F xs))

-- ** values with labels

abbrev AreWritten : List Label → Type 0
AreWritten ls = AllByRecursion IsWritten ls

abbrev AreBounded : List (Option ℕ) → Type 0
AreBounded ns = AllByRecursion IsBounded ns

-- at most all before it have its number
count_few : (n : Option ℕ) (ns : List (Option ℕ)) → count n ns ≤ length ns
count_few n [] = omega arith
count_few n (m ∷ ns) = omega (arith, by (is_number n m), count_few n ns)
  where
    by : (b : Bool) → cond b 1 0 ≤ 1
    by true = omega arith
    by false = omega arith

labels_written : (before ns : List (Option ℕ)) → length before + length ns < 2 ^ 64 → AreBounded ns
    → AreWritten (labels_behind before ns)
labels_written before [] few h = tt
labels_written before (n ∷ ns) few h =
    ((h.0, omega (arith, few, count_few n before)), labels_written (n ∷ before) ns (omega (arith, few)) h.1)

key_lacks : (key : Key) → lacks_marks (key_name key) ≡ true
key_lacks Keys.Msti = refl
key_lacks Keys.From = refl
key_lacks Keys.Vf = refl
key_lacks Keys.Number = refl

-- a label by a key is none of a VLAN
key_within : (sort : Sort) (key : Key) (l : Label) → within (Sort.values sort) (step_text (label_step key l)) ≡ sort
key_within sort Keys.Msti l = refl
key_within sort Keys.From l = refl
key_within sort Keys.Vf l = refl
key_within sort Keys.Number l = refl

labelled_fit : (sort : Sort) (key : Key) (ls : List Label) (hs : List (Option Held)) → AreWritten ls → HeldFit sort hs
    → AllFit (Sort.values sort) (labelled key ls hs)
labelled_fit sort key [] hs all h = tt
labelled_fit sort key (l ∷ ls) [] all h = tt
labelled_fit sort key (l ∷ ls) (None ∷ hs) all h = labelled_fit sort key ls hs all.1 h
labelled_fit sort key (l ∷ ls) (Some held ∷ hs) all h = (
  inr (key_name key, l, key_lacks key, all.0, refl),
  subst (λ s. Fits s held.1) (sym (key_within sort key l)) h.0,
  labelled_fit sort key ls hs all.1 h.1,
)

bounded_is : (n : Option ℕ) → IsBounded (bounded n)
bounded_is None = tt
bounded_is (Some n) = by (nat_lt n (2 ^ 64)) refl
  where
    by : (b : Bool) → nat_lt n (2 ^ 64) ≡ b → IsBounded (cond b (Some n) None)
    by true is = ltb-true n (2 ^ 64) is
    by false is = tt

bounded_append : (ms ns : List (Option ℕ)) → AreBounded ms → AreBounded ns → AreBounded (ms ++ ns)
bounded_append [] ns h k = k
bounded_append (m ∷ ms) ns h k = (h.0, bounded_append ms ns h.1 k)

-- lists of values: each attribute is at most one
module _ (sort : Sort) (number_of : Frame → Option ℕ) (bound : (f : Frame) → IsBounded (number_of f))
    (values : Frame → List (Option Held)) (one : (f : Frame) → length (values f) ≤ 1) where
  numbers_few : (fs : List Frame) → length (numbers_by number_of values fs) ≤ length fs
  numbers_few [] = omega arith
  numbers_few (f ∷ fs) =
      let own = map (λ h. number_of f) (values f) in
      omega (
        arith,
        one f,
        numbers_few fs,
        length-map (values f) (λ h. number_of f),
        length-append own (numbers_by number_of values fs),
      )

  numbers_bounded : (fs : List Frame) → AreBounded (numbers_by number_of values fs)
  numbers_bounded [] = tt
  numbers_bounded (f ∷ fs) =
      bounded_append (map (λ h. number_of f) (values f)) (numbers_by number_of values fs) (each (values f))
      (numbers_bounded fs)
    where
      each : (hs : List (Option Held)) → AreBounded (map (λ h. number_of f) hs)
      each [] = tt
      each (h ∷ hs) = (bound f, each hs)

  pub keyed_fit : (key : Key) (fs : List Frame) → length fs < 2 ^ 64 → HeldFit sort (flat_map values fs)
      → Fits (Sort.values sort) (keyed key (numbers_by number_of values fs) (flat_map values fs))
  keyed_fit key fs few h =
      let ns = numbers_by number_of values fs in
      forest_fits (Sort.values sort) (labelled key (labels_of ns) (flat_map values fs))
      (labelled_fit sort key (labels_of ns) (flat_map values fs)
      (labels_written [] ns (omega (arith, few, numbers_few fs)) (numbers_bounded fs)) h)

module _ (sort : Sort) (cx : Around) (list : Shape) (values : Frame → List (Option Held))
    (one : (f : Frame) → length (values f) ≤ 1) where
  pub listed_fit : (key : Option Key) (fs : List Frame) → length fs < 2 ^ 64 → HeldFit sort (flat_map values fs)
      → Fits (Sort.values sort) (inside_of key (numbers_by (number_in cx key list) values fs) (flat_map values fs))
  listed_fit None fs few h =
      places_fit sort (flat_map values fs) (omega (arith, few, few_each values fs one)) h
  listed_fit (Some key) fs few h =
      keyed_fit sort (number_in cx (Some key) list)
      (λ f. bounded_is (number_said cx key list (row_in cx list (number f)).1 f.payload)) values one key fs few h

pub each_held : {X : Type 0} (sort : Sort) (F : X → List (Option Held)) (xs : List X)
    → ((x : X) → HeldFit sort (F x)) → HeldFit sort (flat_map F xs)
each_held sort F [] h = tt
each_held sort F (x ∷ xs) h = held_append sort (F x) (flat_map F xs) (h x) (each_held sort F xs h)

-- ** VLANs

pub runs_fit : (sort : Sort) (runs : Option (List Run)) (inside : Forest)
    → ((rs : List Run) → runs ≡ Some rs → are_apart None rs ≡ true) → Fits (Sort.values sort) inside
    → Fits (Sort.values sort) (runs_or runs inside)
runs_fit sort None inside apart h = h
runs_fit sort (Some rs) inside apart h = (apart rs refl, refl)

vlans_fit : (sort : Sort) (vs : List (ℕ × Said)) → AllByRecursion (λ (v : ℕ × Said). v.0 < 65536) vs
    → Fits (Sort.values sort) (vlan_trees vs)
vlans_fit sort [] all = tt
vlans_fit sort (v ∷ vs) all = (
  inr (codes "vid", vlan_label v.0, refl, (omega (arith, all.0), omega arith), refl),
  fields_fit (vlan_fields v.0 v.1),
  vlans_fit sort vs all.1,
)

runs_flat_fit : (sort : Sort) (runs : List Run) → are_apart None runs ≡ true → is_values sort ≡ true
    → Fits sort (runs_flat runs)
runs_flat_fit sort [] apart is = tt
runs_flat_fit (Sort.values sort) (r ∷ rs) apart is = vlans_fit sort (vlans_of (r ∷ rs)) (small (r ∷ rs) apart)
runs_flat_fit sort (r ∷ rs) apart is = absurd cc

-- each VLAN as a member
pub flat_fits : (sort : Sort) (f : Forest) → Fits sort f → Fits sort (flat f)
flat_fits sort Forest.none h = tt
flat_fits sort Forest.passed h = tt
flat_fits sort (Forest.vlans runs) h = runs_flat_fit sort runs h.0 h.1
flat_fits sort (Forest.texts vs) h = tt
flat_fits sort (Forest.tree s v i rest) h =
    (h.0, flat_fits (within sort (step_text s)) i h.1, flat_fits sort rest h.2)

-- ** bytes of a size, and the frames in them

abbrev pub IsShort : List ℕ → Type 0
IsShort p = length p < 2 ^ 64

abbrev pub AreShort : List Frame → Type 0
AreShort fs = AllByRecursion (λ f. IsShort f.payload) fs

abbrev pub AreFew : List Frame → Type 0
AreFew fs = (length fs < 2 ^ 64) × AreShort fs

no_more : (b : List ℕ) → length (frames_in (items b)) ≤ length b
no_more = items_case (λ b xs. length (frames_in xs) ≤ length b) (omega arith) (λ b c e. omega arith)
    (λ b f rest e h. omega (arith, h, step_shorter b f rest e))

all_short : (b : List ℕ) → IsShort b → AreShort (frames_in (items b))
all_short = items_case (λ b xs. IsShort b → AreShort (frames_in xs)) (λ short. tt) (λ b c e short. tt)
    (λ b f rest e h short.
    (omega (arith, short, step_size b f rest e), h (omega (arith, short, step_shorter b f rest e))))

pub few_in : (b : List ℕ) → IsShort b → AreFew (frames_in (items b))
few_in b short = (omega (arith, short, no_more b), all_short b short)

-- ** a payload

abbrev pub InnerFits : Inner → Type 0
InnerFits inner = (list : Shape) (p : List ℕ) → is_known list ≡ true → IsShort p → Fits (sort_of list) (inner list p)

abbrev MeaningFits : Sort → Meaning → Type 0
MeaningFits sort (Fields members p) = sort ≡ Sort.fields
MeaningFits sort (Nested place p) = (sort ≡ Sort.attributes (whose_place place)) × IsShort p
MeaningFits sort _ = Unit {0}

form_none : (sort : Sort) (spelling : Spelling) (p : List ℕ) → MeaningFits sort (form_meaning spelling p)
form_none sort (Host size) p = tt
form_none sort spelling p = tt

raw_or : (sort : Sort) (b : Bool) (meaning : Meaning) (p : List ℕ) → MeaningFits sort meaning
    → MeaningFits sort (cond b meaning (Raw p))
raw_or sort true meaning p h = h
raw_or sort false meaning p h = tt

read_fits : (sort : Sort) (style : Style) (p : List ℕ) → IsShort p → style_fits sort style ≡ true
    → MeaningFits sort (read_as style p)
read_fits sort S.Bytes p short h = tt
read_fits sort S.Flag [] short h = tt
read_fits sort S.Flag (x ∷ p) short h = tt
read_fits sort S.Text p short h = by (text.reads p)
  where
    by : (read : Result (List ℕ) Cause) → MeaningFits sort (text_or_bytes p read)
    by (Ok s) = tt
    by (Err c) = tt
read_fits sort (S.Plain plain) p short h =
    raw_or sort (length p == plain_size plain) (form_meaning (form plain) p) p (form_none sort (form plain) p)
read_fits sort (S.Record members) p short h =
    raw_or sort (record_size members.now == length p) (Fields members.now p) p (same_sort sort Sort.fields h)
read_fits sort (S.Array plain) p short h =
    raw_or sort (is_multiple (plain_size plain) (length p)) (Elements plain p) p tt
read_fits sort (S.List plain) p short h =
    raw_or sort (are_frames_of (plain_size plain) (items p)) (Listed plain p) p tt
read_fits sort (S.Nest place) p short h =
    raw_or sort (are_frames (items p)) (Nested place p) p
    (same_sort sort (Sort.attributes (whose_place place)) h, short)
read_fits sort (S.Each (E.Plain plain)) p short h =
    raw_or sort (length p == plain_size plain) (form_meaning (form plain) p) p (form_none sort (form plain) p)
read_fits sort (S.Each (E.Record members)) p short h =
    raw_or sort (record_size members.now == length p) (Fields members.now p) p (same_sort sort Sort.fields h)
read_fits sort (S.Each (E.Nest place)) p short h =
    raw_or sort (are_frames (items p)) (Nested place p) p
    (same_sort sort (Sort.attributes (whose_place place)) h, short)

module _ (inner : Inner) (fit : InnerFits inner) (sort : Sort) where
  as_same : (own : Sort) (f : Forest) → sort ≡ own → Fits own f → Fits sort f
  as_same own f is h = subst (λ s. Fits s f) (sym is) h

  as_fields : (ms : Members) → is_same sort Sort.fields ≡ true → Fits sort (fields ms)
  as_fields ms is = as_same Sort.fields (fields ms) (same_sort sort Sort.fields is) (fields_fit ms)

  meaning_fits : (action : Action) (meaning : Meaning) → MeaningFits sort meaning
      → Fits sort (meaning_inside inner action meaning)
  meaning_fits action (Fields members p) h =
      as_same Sort.fields (meaning_inside inner action (Fields members p)) h
      (kept_fields_fit action (map (λ m. plain_size m.1) members) (record_shown members p))
  meaning_fits action (Nested place p) h =
      as_same (Sort.attributes (whose_place place)) (inner (Shapes.Of place) p) h.0 (fit (Shapes.Of place) p refl h.1)
  meaning_fits action meaning h = tt

  ipv6_fits : (order : Order) (p : List ℕ) → is_same sort Sort.fields ≡ true → Fits sort (ipv6_inside order p)
  ipv6_fits Orders.Unknown p h = tt
  ipv6_fits Orders.Before p h = as_fields (ipv6_named false p) h
  ipv6_fits Orders.Since p h = as_fields (ipv6_named true p) h

  inside_fits : (cx : Around) (action : Action) (form : Form) (p : List ℕ) → IsShort p → form_fits sort form ≡ true
      → Fits sort (form_inside inner cx action form p)
  inside_fits cx action (Forms.Counters words) p short h =
      as_fields (counters_shown (counter_names words) (counter_width words) p 0) h
  inside_fits cx action Forms.Ipv6Counters p short h = ipv6_fits cx.order p h
  inside_fits cx action (Forms.Settings set) p short h =
      as_same Sort.fields (form_inside inner cx action (Forms.Settings set) p) (same_sort sort Sort.fields h)
      (kept_fields_fit action (map (λ name. 4) (setting_names set))
      (settings_shown (setting_names set) p 0 ++ behind_settings set p))
  inside_fits cx action (Forms.Record parts) p short h = as_fields (fields_shown cx (fields_in parts) p) h
  inside_fits cx action Forms.Wireless p short h = as_fields (((event_in p).0, hexadecimal (event_in p).1) ∷ []) h
  inside_fits cx action (Forms.List list) p short h =
      let both = and_parts (is_known list) (is_same sort (sort_of list)) h in
      as_same (sort_of list) (inner list p) (same_sort sort (sort_of list) both.1) (fit list p both.0 short)
  inside_fits cx action Forms.Info p short h =
      as_same (Sort.attributes Whose.other) (inner (info_of p) p) (same_sort sort (Sort.attributes Whose.other) h)
      (fit (info_of p) p (info_known p) short)
  inside_fits cx action form p short h = tt

  way_inside_fits : (cx : Around) (action : Action) (way : Way) (p : List ℕ) → IsShort p → way_fits sort way ≡ true
      → Fits sort (way_inside inner cx action way p)
  way_inside_fits cx action (Ways.Own form) p short h = inside_fits cx action form p short h
  way_inside_fits cx action (Ways.By style) p short h =
      meaning_fits action (read_as style p) (read_fits sort style p short h)

  pub held_fits : (cx : Around) (action : Action) (way : Way) (p : List ℕ) → IsShort p → way_fits sort way ≡ true
      → Fits sort (held_inside inner cx action way p)
  held_fits cx action way p short h = by (is_clear action)
    where
      by : (b : Bool) → Fits sort (cond b Forest.passed (way_inside inner cx action way p))
      by true = tt
      by false = way_inside_fits cx action way p short h
