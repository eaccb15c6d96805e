-- Lists of values beside each other, place by place.
use Rattle.std.proofs.Common.{◌≡◌, ℕ, ◌+◌, ◌<◌, ◌≤◌, Bool, true, false, List, [], ◌∷◌, ◌++◌, refl, subst}
use Rattle.std.proofs.Common.{sym, ap, ◌∙◌, Ok, append-nil, arith, eq-eqb, length, map}
use Rattle.std.specs.Prelude.{IfSome, Option, Some, None, ◌==◌, ◌&&◌, ◌||◌, codes, cond, decimal, nat_lt, not}
use Rattle.std.specs.Prelude.{option_map}
use Rattle.std.specs.List.{flat_map}
use Rattle.std.specs.Option.{is_some as is_some_value}
use Rattle.std.proofs.lemmas.List.{map-append}
use Rattle.json.specs.Token.{Token}
use Rattle.nla_wire.specs.Frames.{Frame, number}
use Rattle.nla_wire.specs.Items.{Item, frame_count, items}
use Rattle.link_info.specs.Tables.{frames_in}
use Rattle.shown.specs.Drafts.{Draft, list_of, object_of, with_members}
use Rattle.frame_shown.specs.Frames.{by_row, frame_item}
use Rattle.frame_shown.specs.Items.{Item as Shown, named_ones, objects}
use Rattle.frame_shown.specs.Items.{values_of as texts_of, values_with as shown_values}
use Rattle.frame_shown.specs.Tables.{Known, entry_list, group_name, is_kept, kind_shown, no_row, row_found, row_in}
use Rattle.frame_shown.specs.Tables.{is_each}
use Rattle.frame_shown.specs.declared.form.Around.{Around}
use Rattle.frame_shown.specs.declared.form.Form.TheVariants as Forms
use Rattle.frame_shown.specs.declared.form.Group.{Group}
use Rattle.frame_shown.specs.declared.form.List.{List as Shape}
use Rattle.frame_shown.specs.declared.form.List.TheVariants as Shapes
use Rattle.frame_shown.specs.declared.form.Table.{Table}
use Rattle.frame_shown.specs.declared.form.Table.TheVariants as Tables
use Rattle.frame_shown.proofs.Items.{on_next}
use Rattle.frame_diff.specs.Counters.{action_in}
use Rattle.frame_diff.specs.Forests.{Forest, Held, Member, Step, comes, entries_step, find, forest, is_step, is_text}
use Rattle.frame_diff.specs.Forests.{left_of, rest_step, values_step}
use Rattle.frame_diff.specs.Groups.{IsFlat, first_by, first_of, group_at, group_by, group_held, group_step}
use Rattle.frame_diff.specs.Groups.{flat_shown, group_inside, is_valued, numbers_at, picked_by, picked_values}
use Rattle.frame_diff.specs.Groups.{group_values, is_entries, is_group, is_same_group}
use Rattle.frame_diff.specs.Groups.{next_place, picked, place_items, rest_by, rest_forest, rest_of, value_at}
use Rattle.frame_diff.specs.Groups.{values_by, values_of}
use Rattle.frame_diff.specs.Inside.{has_none}
use Rattle.frame_diff.specs.Keys.{key_at, number_in}
use Rattle.frame_diff.specs.Labels.{label_step, labelled, labels_of, keyed}
use Rattle.frame_diff.specs.Items.{further, items_told, joined, leaf_items, step_text}
use Rattle.frame_diff.specs.Members.{Reading, entries_in, entry_of, frame_member, group_of, held_by, is_some}
use Rattle.frame_diff.specs.Members.{inside_of, numbers_by, values_with}
use Rattle.frame_diff.specs.Members.{kept_in, list_members, named_by, named_in, placed, placed_one, places}
use Rattle.frame_diff.specs.Members.{are_plain, is_nested, value_in, values_inside, kept_inside, others_at, list_by}
use Rattle.frame_diff.specs.Values.{kept_among, kept_at, kept_inside_at, kept_numbers, listed_shown, numbers_among}
use Rattle.frame_diff.specs.Walked.{Holding, Showing, held_items, reading_at, step_items}
use Rattle.frame_diff.specs.declared.keys.Key.{Key}
use Rattle.frame_diff.specs.declared.labels.Label.{Label}
use Rattle.frame_diff.specs.declared.side.Side.{Side}
use Rattle.frame_diff.specs.declared.walk.Attribute.{Attribute}
use Rattle.frame_diff.specs.declared.walk.Attributes.{Attributes}
use Rattle.frame_diff.specs.declared.keys.Key.TheVariants as Keys
use Rattle.frame_diff.proofs.Apart.{find_none, no_runs}
use Rattle.frame_diff.proofs.Classes.{list_steps, none_in_object}
use Rattle.frame_diff.proofs.Entries.{below, later}
use Rattle.frame_diff.proofs.Inside.{AreAt, forest_all, forest_some, same_told, same_written}
use Rattle.frame_diff.proofs.Nested.{text_flat}
use Rattle.frame_diff.proofs.Numbered.{labels_long, numbers_long}
use Rattle.frame_diff.proofs.Parts.{find_back, list_lacks, list_told}
use Rattle.frame_diff.proofs.Walked.{last_further}
use Rattle.frame_diff.proofs.Values.{texts_are, values_agree}
use Rattle.frame_diff.specs.Forests.{runs_inside}
use Rattle.link_vlans.specs.declared.run.Run.{Run}
use Rattle.frame_diff.specs.Groups.{labelled_inside}
use Rattle.frame_diff.specs.Members.{runs_by, runs_or}
use Rattle.frame_diff.specs.Members.{flat_inside, is_own_key, unless_empty}
use Rattle.frame_diff.specs.Items.{is_loose, moved_items, whole_items, member_items, texts_items}
use Rattle.frame_diff.specs.Keyed.{list_beside}
use Rattle.frame_diff.specs.Walked.{listed_items}
use Rattle.frame_diff.specs.Forests.{is_label}
use Rattle.frame_diff.specs.Sides.{is_moved}
use Rattle.frame_diff.specs.Settled.{settled, settled_in}
use Rattle.frame_diff.specs.Groups.{runs_at}
use Rattle.frame_diff.specs.Differences.{leaf_in}
use Rattle.frame_diff.specs.declared.side.Side.TheVariants.{Old}
use Rattle.frame_shown.specs.Frames.{list_shown}
use Rattle.frame_shown.specs.declared.form.Group.TheVariants as Groups
use Rattle.link_info.specs.declared.place.Place.TheVariants as Places
use Rattle.link_vlans.specs.Runs.{runs_in}
use Rattle.std.specs.Global.{Vec}
use Rattle.shown.specs.Drafts.{Members}
use Rattle.frame_diff.specs.Groups.{value_by}
use Rattle.frame_shown.specs.Frames.{way_shown}
use Rattle.frame_diff.specs.Values.{value_shown}
use Rattle.frame_diff.specs.declared.leaf.Value.{Value}
use Rattle.frame_diff.specs.declared.leaf.Value.TheVariants as Values
use Rattle.std.proofs.Common.{append_assoc}
use Rattle.frame_diff.specs.Items.{alone_texts, texts_by}
use Rattle.frame_diff.specs.Differences.{is_shown_same}

-- ** the values of a list, one attribute further

named_further : (r : Reading) (list : Shape) (f : Frame) (fs : List Frame)
    → values_of (named_in r list (f ∷ fs)) ≡ values_of (frame_member r list f) ++ values_of (named_in r list fs)
named_further r list f fs = map-append (λ (m : Member). Some m.1) (frame_member r list f) (named_in r list fs)

pub group_further : (r : Reading) (list : Shape) (f : Frame) (fs : List Frame)
    → group_values r list (f ∷ fs) ≡ values_by r list f ++ group_values r list fs
group_further r (Shapes.Listed group table) f fs = named_further r (Shapes.Listed group table) f fs
group_further r (Shapes.Entries group) f fs = refl
group_further r (Shapes.Message family) f fs = named_further r (Shapes.Message family) f fs
group_further r (Shapes.Own table) f fs = named_further r (Shapes.Own table) f fs
group_further r (Shapes.Of place) f fs = named_further r (Shapes.Of place) f fs
group_further r Shapes.ProtoInet6 f fs = named_further r Shapes.ProtoInet6 f fs
group_further r Shapes.Refused f fs = named_further r Shapes.Refused f fs
group_further r (Shapes.Info link port) f fs = named_further r (Shapes.Info link port) f fs

pub picked_further : (r : Reading) (picks : Option ℕ) (list : Shape) (f : Frame) (fs : List Frame)
    → picked_values r picks list (f ∷ fs) ≡ picked_by r picks list f ++ picked_values r picks list fs
picked_further r None list f fs = group_further r list f fs
picked_further r (Some n) list f fs = refl

-- ** one of them

module _ (nest : Showing) (inner : Holding) (is_state : Bool) where
  pub list_split : (picks : Option ℕ) (list : Shape) (cx : Around) (f : Frame) (e : Option Attribute)
      (it next : List Item)
      → it ≡ Ok f ∷ next
      → picked nest inner is_state e ≡ picked_by (reading_at nest inner is_state cx) picks list f
      → picked_values (reading_at nest inner is_state cx) picks list (frames_in it)
      ≡ picked nest inner is_state e ++ picked_values (reading_at nest inner is_state cx) picks list (frames_in next)
  list_split picks list cx f e it next here looked =
      let r = reading_at nest inner is_state cx in
      ap (λ xs. picked_values r picks list (frames_in xs)) here
      ∙ picked_further r picks list f (frames_in next)
      ∙ ap (λ hs. hs ++ picked_values r picks list (frames_in next)) (sym looked)

-- ** at a place

first_found : (n : ℕ) (gs : List (Option Held)) → find (Step.place n) (forest (placed n gs)) ≡ first_of gs
first_found n [] = refl
first_found n (None ∷ gs) = find_none (Step.place n) (placed (n + 1) gs) (later n (n + 1) (omega arith) gs)
first_found n (Some g ∷ gs) =
    let behind : Forest = forest (placed (n + 1) gs) in
    ap (λ b. find (Step.place n) (cond b behind (Forest.tree (Step.place n) g.0 g.1 behind)))
    (later n (n + 1) (omega arith) gs)
    ∙ ap (λ b. cond b (Some g) (find (Step.place n) behind)) (eq-eqb n n refl)

-- behind a place
abbrev pub IsBehind : ℕ → Step → Type 0
IsBehind n s = (k : ℕ) × (s ≡ Step.place k) × (n < k)

placed_behind : (n m : ℕ) → n < m → (hs : List (Option Held)) → AreAt (IsBehind n) (placed m hs)
placed_behind n m less [] = tt
placed_behind n m less (None ∷ hs) = placed_behind n (m + 1) (omega (arith, less)) hs
placed_behind n m less (Some h ∷ hs) =
    ((m, refl, less), placed_behind n (m + 1) (omega (arith, less)) hs)

one_lacks : (n k : ℕ) → n < k → (g : Option Held) → comes (Step.place k) (placed_one n g) ≡ false
one_lacks n k less None = refl
one_lacks n k less (Some g) = ap (λ b. cond b true false) (below n k less)

behind_found : (n : ℕ) (gs : List (Option Held)) (s : Step) → IsBehind n s
    → find s (forest (placed n gs)) ≡ find s (forest (placed (n + 1) (rest_of gs)))
behind_found n [] s behind = refl
behind_found n (g ∷ gs) s behind =
    find_back s (placed_one n g) (placed (n + 1) gs)
    (ap (λ t. comes t (placed_one n g)) behind.1 ∙ one_lacks n behind.0 behind.2 g)

rest_told : (side : Side) (text : List ℕ) (n : ℕ) (hs gs : List (Option Held))
    → items_told side text (forest (placed (n + 1) hs)) (forest (placed n gs))
    ≡ items_told side text (forest (placed (n + 1) hs)) (forest (placed (n + 1) (rest_of gs)))
rest_told side text n hs gs =
    same_told (IsBehind n) side text (forest (placed (n + 1) hs)) (forest (placed n gs))
    (forest (placed (n + 1) (rest_of gs)))
    (forest_all (IsBehind n) (placed (n + 1) hs) (placed_behind n (n + 1) (omega arith) hs)) (behind_found n gs)

pair_told : (side : Side) (text : List ℕ) (n : ℕ) (h : Held) (hs gs : List (Option Held))
    → items_told side text (forest (placed n (Some h ∷ hs))) (forest (placed n gs))
    ≡ place_items side text n (Some h) (first_of gs)
    ++ items_told side text (forest (placed (n + 1) hs)) (forest (placed (n + 1) (rest_of gs)))
pair_told side text n h hs gs =
    last_further side text (forest (placed n gs)) (Step.place n, h) (placed (n + 1) hs)
    ∙ (λ k. cond (later n (n + 1) (omega arith) hs k) [] (held_items side (joined text (decimal n)) h
    (first_found n gs k)) ++ rest_told side text n hs gs k)

-- ** the loop over them

module _ (nest : Showing) (inner : Holding) (is_state : Bool) (side : Side) (text : List ℕ) where
  picked_told : (e : Option Attribute) (n : ℕ) (hs gs : List (Option Held))
      → items_told side text (forest (placed n (picked nest inner is_state e ++ hs))) (forest (placed n gs))
      ≡ place_items side text n (option_map (value_at nest inner is_state) e) (first_by e gs)
      ++ items_told side text (forest (placed (next_place e n) hs)) (forest (placed (next_place e n) (rest_by e gs)))
  picked_told None n hs gs = refl
  picked_told (Some a) n hs gs = pair_told side text n (value_at nest inner is_state a) hs gs

  pub places_next : (picks : Option ℕ) (list : Shape) (cx : Around) (f : Frame) (e : Option Attribute)
      (it next : List Item)
      → it ≡ Ok f ∷ next
      → picked nest inner is_state e ≡ picked_by (reading_at nest inner is_state cx) picks list f
      → (gs left : List (Option Held)) (beside : Option Held) → beside ≡ first_by e gs → left ≡ rest_by e gs
      → (n m : ℕ) (page new all : Draft) → m ≡ next_place e n
      → new ≡ with_members (objects (place_items side text n (option_map (value_at nest inner is_state) e) beside)) page
      → with_members (objects (items_told side text
      (forest (placed n (picked_values (reading_at nest inner is_state cx) picks list (frames_in it))))
      (forest (placed n gs)))) page ≡ all
      → with_members (objects (items_told side text
      (forest (placed m (picked_values (reading_at nest inner is_state cx) picks list (frames_in next))))
      (forest (placed m left)))) new ≡ all
  places_next picks list cx f e it next here looked gs left beside first behind n m page new all more then was =
      let r = reading_at nest inner is_state cx in
      let hs = picked_values r picks list (frames_in next) in
      let told = place_items side text n (option_map (value_at nest inner is_state) e) beside in
      let rest = items_told side text (forest (placed m hs)) (forest (placed m left)) in
      on_next (objects (items_told side text (forest (placed n (picked_values r picks list (frames_in it))))
      (forest (placed n gs)))) (objects told) (objects rest) page new all
      (ap (λ vs. objects (items_told side text (forest (placed n vs)) (forest (placed n gs))))
      (list_split nest inner is_state picks list cx f e it next here looked)
      ∙ ap objects (picked_told e n hs gs
      ∙ (λ k. place_items side text n (option_map (value_at nest inner is_state) e) (sym first k)
      ++ items_told side text (forest (placed (sym more k) hs)) (forest (placed (sym more k) (sym behind k)))))
      ∙ map-append (λ o. ([], object_of o)) told rest)
      was then

pub next_fits : (f : Frame) (e : Option Attribute) (it next : List Item) → it ≡ Ok f ∷ next → (n m all : ℕ)
    → m ≡ next_place e n → n + frame_count it ≤ all → m + frame_count next ≤ all
next_fits f None it next here n m all is few =
    let first : frame_count it ≡ 1 + frame_count next = ap frame_count here in omega (arith, first, is, few)
next_fits f (Some a) it next here n m all is few =
    let first : frame_count it ≡ 1 + frame_count next = ap frame_count here in omega (arith, first, is, few)

-- ** values of which none is an object or a list

pub plain_append : (xs ys : List (Option Held)) → are_plain (xs ++ ys) ≡ (are_plain xs && are_plain ys)
plain_append [] ys = refl
plain_append (x ∷ xs) ys = by (is_nested x) (plain_append xs ys)
  where
    by : (b : Bool) → are_plain (xs ++ ys) ≡ (are_plain xs && are_plain ys)
        → (not b && are_plain (xs ++ ys)) ≡ ((not b && are_plain xs) && are_plain ys)
    by true h = refl
    by false h = h

-- alternative names are texts
pub names_flat : (group : Group) → IsFlat None (Shapes.Listed group Tables.Props)
names_flat group r [] = refl
names_flat group r (f ∷ fs) = by (nat_lt (number f) 256) (53 == number f) (names_flat group r fs)
  where
    list : Shape
    list = Shapes.Listed group Tables.Props

    row : Bool → Known
    row b = row_found (cond b (Some (53, (codes "alt-ifname", Forms.Text))) None)

    by : (b c : Bool) → are_plain (values_of (named_in r list fs)) ≡ true
        → are_plain (values_of (named_by r (action_in r.is_state list (number f)) (cond b (row c) no_row) f
        ++ named_in r list fs)) ≡ true
    by true true rest = (λ k. not (text_flat r.nest r.around f.payload k) && rest k)
    by true false rest = rest
    by false c rest = rest

placed_some : (n : ℕ) (hs : List (Option Held)) → are_plain hs ≡ false → has_none (forest (placed n hs)) ≡ false
placed_some n [] some = absurd cc
placed_some n (None ∷ hs) some = placed_some (n + 1) hs some
placed_some n (Some h ∷ hs) some = forest_some (Step.place n, h) (placed (n + 1) hs)

-- each of the others at its label
labelled_some : (key : Key) (ls : List Label) (hs : List (Option Held)) → length ls ≡ length hs
    → are_plain hs ≡ false → has_none (forest (labelled key ls hs)) ≡ false
labelled_some key ls [] long some = absurd cc
labelled_some key [] (h ∷ hs) long some = absurd cc
labelled_some key (l ∷ ls) (None ∷ hs) long some = labelled_some key ls hs (omega (arith, long)) some
labelled_some key (l ∷ ls) (Some h ∷ hs) long some = forest_some (label_step key l, h) (labelled key ls hs)

inside_some : (key : Option Key) (ns : List (Option ℕ)) (hs : List (Option Held)) → length ns ≡ length hs
    → are_plain hs ≡ false → has_none (inside_of key ns hs) ≡ false
inside_some None ns hs long some = placed_some 0 hs some
inside_some (Some key) ns hs long some = labelled_some key (labels_of ns) hs (labels_long [] ns ∙ long) some

pub inside_plain : (own : Bool) (hs : List (Option Held)) (inside : Forest)
    → (are_plain hs ≡ false → has_none inside ≡ false) → has_none (values_inside own hs inside) ≡ are_plain hs
inside_plain own hs inside some = by (are_plain hs) own some
  where
    by : (b own : Bool) → (b ≡ false → has_none inside ≡ false) → has_none (cond b (flat_inside own hs) inside) ≡ b
    by true true is = refl
    by true false is = refl
    by false own is = is refl

-- what is inside a list of which some are
pub inside_here : (own : Bool) (hs : List (Option Held)) (inside : Forest) → are_plain hs ≡ false
    → values_inside own hs inside ≡ inside
inside_here own hs inside some = ap (λ b. cond b (flat_inside own hs) inside) some

pub inside_none : (own : Bool) (hs : List (Option Held)) (inside : Forest) → are_plain hs ≡ true
    → values_inside own hs inside ≡ flat_inside own hs
inside_none own hs inside plain = ap (λ b. cond b (flat_inside own hs) inside) plain

-- in which there are no members
pub flat_lacks : (own : Bool) (hs : List (Option Held)) (s : Step) → find s (flat_inside own hs) ≡ None
flat_lacks true hs s = refl
flat_lacks false hs s = refl

pub flat_runless : (own : Bool) (hs : List (Option Held)) → runs_inside (flat_inside own hs) ≡ []
flat_runless true hs = refl
flat_runless false hs = refl

runs_some : (runs : Option (List Run)) (inside : Forest) → has_none inside ≡ false
    → has_none (runs_or runs inside) ≡ false
runs_some None inside some = some
runs_some (Some rs) inside some = refl

-- each value has a number
pub picked_none : (r : Reading) (picks : Option ℕ) (list : Shape) → picked_values r picks list [] ≡ []
picked_none r (Some n) list = refl
picked_none r None (Shapes.Listed group table) = refl
picked_none r None (Shapes.Entries group) = refl
picked_none r None (Shapes.Message family) = refl
picked_none r None (Shapes.Own table) = refl
picked_none r None (Shapes.Of place) = refl
picked_none r None Shapes.ProtoInet6 = refl
picked_none r None Shapes.Refused = refl
picked_none r None (Shapes.Info link port) = refl

picked_flat : (r : Reading) (picks : Option ℕ) (list : Shape) (fs : List Frame)
    → flat_map (picked_by r picks list) fs ≡ picked_values r picks list fs
picked_flat r picks list [] = sym (picked_none r picks list)
picked_flat r picks list (f ∷ fs) =
    ap (λ hs. picked_by r picks list f ++ hs) (picked_flat r picks list fs)
    ∙ sym (picked_further r picks list f fs)

module _ (nest : Showing) (inner : Holding) (is_state : Bool) where
  pub group_plain : (a : Attributes)
      → has_none (group_held nest inner is_state a).1 ≡ are_plain (group_at nest inner is_state a)
  group_plain a =
      inside_plain (is_own_key a.number a.list) (group_at nest inner is_state a) (group_inside nest inner is_state a)
      (λ some. runs_some (runs_by a.number a.list (frames_in (items a.bytes.now)))
      (labelled_inside nest inner is_state a)
      (inside_some (key_at a.number a.list) (numbers_at nest inner is_state a) (group_at nest inner is_state a)
      (numbers_long (number_in a.around.now (key_at a.number a.list) a.list)
      (picked_by (reading_at nest inner is_state a.around.now) a.number a.list) (frames_in (items a.bytes.now))
      ∙ ap length (picked_flat (reading_at nest inner is_state a.around.now) a.number a.list
      (frames_in (items a.bytes.now)))) some))

-- as one value they are what is shown

module _ (nest : Showing) (inner : Holding) (is_state : Bool) (cx : Around) where
  abbrev r : Reading
  r = reading_at nest inner is_state cx

  listed_texts : (list : Shape) (fs : List Frame)
      → flat_map value_in (values_of (named_in r list fs))
      ≡ flat_map texts_of (named_ones (map (frame_item (nest cx) cx list) fs))
  listed_texts list [] = refl
  listed_texts list (f ∷ fs) = by (is_kept row.1 f.payload) (is_each row.1) (listed_texts list fs)
    where
      row : Known
      row = row_in cx list (number f)

      own : Member
      own = (Step.name row.0, held_by r (action_in is_state list (number f)) row.1 f.payload)

      by : (kept each : Bool)
          → flat_map value_in (values_of (named_in r list fs))
          ≡ flat_map texts_of (named_ones (map (frame_item (nest cx) cx list) fs))
          → flat_map value_in (values_of (cond (kept || each) [] (own ∷ []) ++ named_in r list fs))
          ≡ flat_map texts_of (named_ones (cond kept
          (Shown.as_is row.0 (kind_shown row.1 f.kind) f.payload)
          (cond each (Shown.each (number f) own.1.0) (Shown.named (number f) ((row.0, own.1.0) ∷ [])))
          ∷ map (frame_item (nest cx) cx list) fs))
      by true each rest = rest
      by false true rest = rest
      by false false rest = (λ k. sym (append-nil own.1.0) k ++ rest k)

  no_entries : (list : Shape) (fs : List Frame) → are_plain (entries_in r list fs) ≡ true → entries_in r list fs ≡ []
  no_entries list [] plain = refl
  no_entries list (f ∷ fs) plain = by (number f == 1) (no_entries list fs) plain
    where
      by : (b : Bool) → (are_plain (entries_in r list fs) ≡ true → entries_in r list fs ≡ [])
          → are_plain (cond b (Some (entry_of r list f.payload) ∷ []) [] ++ entries_in r list fs) ≡ true
          → cond b (Some (entry_of r list f.payload) ∷ []) [] ++ entries_in r list fs ≡ []
      by true rest plain = absurd cc
      by false rest plain = rest plain

  none_named : (group : Group) (fs : List Frame)
      → named_ones (map (frame_item (nest cx) cx (Shapes.Entries group)) fs) ≡ []
  none_named group [] = refl
  none_named group (f ∷ fs) = by (nat_lt (number f) 256) (none_named group fs)
    where
      by : (b : Bool) → named_ones (map (frame_item (nest cx) cx (Shapes.Entries group)) fs) ≡ []
          → named_ones (by_row (nest cx) cx (cond b no_row no_row) f
          ∷ map (frame_item (nest cx) cx (Shapes.Entries group)) fs) ≡ []
      by true rest = rest
      by false rest = rest

  pub plain_shown : (list : Shape) (p : List ℕ) → is_group list ≡ true
      → are_plain (group_values r list (frames_in (items p))) ≡ true
      → listed_shown (nest cx) cx list p ≡ list_of (flat_map value_in (group_values r list (frames_in (items p))))
  plain_shown (Shapes.Listed group table) p h plain =
      ap list_of (sym (listed_texts (Shapes.Listed group table) (frames_in (items p))))
  plain_shown (Shapes.Entries group) p h plain =
      (λ k. list_of (flat_map texts_of (none_named group (frames_in (items p)) k)))
      ∙ sym (ap (λ hs. list_of (flat_map value_in hs)) (no_entries (entry_list group) (frames_in (items p)) plain))
  plain_shown (Shapes.Message family) p h plain = absurd cc
  plain_shown (Shapes.Own table) p h plain = absurd cc
  plain_shown (Shapes.Of place) p h plain = absurd cc
  plain_shown Shapes.ProtoInet6 p h plain = absurd cc
  plain_shown Shapes.Refused p h plain = absurd cc
  plain_shown (Shapes.Info link port) p h plain = absurd cc

  -- of lists without entries, whatever their values are
  pub list_shown_is : (picks : Option ℕ) (list : Shape) (p : List ℕ) → is_valued picks list ≡ true
      → is_entries list ≡ false
      → flat_shown (nest cx) cx picks list p
      ≡ list_of (flat_map value_in (picked_values r picks list (frames_in (items p))))
  list_shown_is None (Shapes.Listed group table) p h none =
      ap list_of (sym (listed_texts (Shapes.Listed group table) (frames_in (items p))))
  list_shown_is None (Shapes.Entries group) p h none = absurd cc
  list_shown_is None (Shapes.Message family) p h none = absurd cc
  list_shown_is None (Shapes.Own table) p h none = absurd cc
  list_shown_is None (Shapes.Of place) p h none = absurd cc
  list_shown_is None Shapes.ProtoInet6 p h none = absurd cc
  list_shown_is None Shapes.Refused p h none = absurd cc
  list_shown_is None (Shapes.Info link port) p h none = absurd cc
  list_shown_is (Some n) list p h none =
      ap list_of (sym (texts_are (values_with r list n (frames_in (items p)))
      (shown_values n (map (frame_item (nest cx) cx list) (frames_in (items p))))
      (values_agree is_state (nest cx) (inner is_state cx) cx list n (frames_in (items p)))))

  pub valued_shown : (picks : Option ℕ) (list : Shape) (p : List ℕ) → is_valued picks list ≡ true
      → are_plain (picked_values r picks list (frames_in (items p))) ≡ true
      → flat_shown (nest cx) cx picks list p
      ≡ list_of (flat_map value_in (picked_values r picks list (frames_in (items p))))
  valued_shown None list p h plain = plain_shown list p h plain
  valued_shown (Some n) list p h plain =
      ap list_of (sym (texts_are (values_with r list n (frames_in (items p)))
      (shown_values n (map (frame_item (nest cx) cx list) (frames_in (items p))))
      (values_agree is_state (nest cx) (inner is_state cx) cx list n (frames_in (items p)))))

-- ** a list of values among the members of its list

abbrev inner_of : Reading → Shape → List Frame → Forest
inner_of r list fs = left_of (is_some fs) (list_members r list fs)

abbrev rest_step_now : Step
rest_step_now = rest_step (codes "other")

-- one value of all of them
abbrev all_held : Reading → Shape → List Frame → Held
all_held r list fs = group_by (is_own_key None list) (group_values r list fs) (inside_of (key_at None list)
    (numbers_by (number_in r.around (key_at None list) list) (picked_by r None list) fs) (group_values r list fs))

one_told : (side : Side) (text : List ℕ) (s : Step) (h : Held) (ms : List Member) (g : Forest) → comes s ms ≡ false
    → items_told side text (forest ((s, h) ∷ ms)) g
    ≡ step_items side text s h (find s g) ++ items_told side text (forest ms) g
one_told side text s h ms g once =
    last_further side text g (s, h) ms
    ∙ ap (λ b. cond b [] (step_items side text s h (find s g)) ++ items_told side text (forest ms) g) once

pub listed_told : (side : Side) (text : List ℕ) (r : Reading) (list : Shape) (fs : List Frame) (g : Forest)
    → (is_group list && not (is_entries list)) ≡ true
    → items_told side text (inner_of r list fs) g
    ≡ listed_items side (joined text (step_text (group_step list))) (all_held r list fs)
    (find (group_step list) g)
    ++ items_told side text (forest (others_at rest_step_now r list fs)) g
listed_told side text r (Shapes.Listed group table) fs g h =
    let list = Shapes.Listed group table in
    one_told side text (values_step (group_name group)) (all_held r list fs)
    (others_at rest_step_now r list fs) g
    (list_lacks (values_step (group_name group)) rest_step_now (kept_in r list fs) (kept_inside r list fs) refl)
listed_told side text r (Shapes.Entries group) fs g h = absurd cc
listed_told side text r (Shapes.Message family) fs g h = absurd cc
listed_told side text r (Shapes.Own table) fs g h = absurd cc
listed_told side text r (Shapes.Of place) fs g h = absurd cc
listed_told side text r Shapes.ProtoInet6 fs g h = absurd cc
listed_told side text r Shapes.Refused fs g h = absurd cc
listed_told side text r (Shapes.Info link port) fs g h = absurd cc

pub entries_told : (side : Side) (text : List ℕ) (r : Reading) (list : Shape) (fs : List Frame) (g : Forest)
    → is_entries list ≡ true
    → items_told side text (inner_of r list fs) g
    ≡ listed_items side (joined text (step_text (group_step list))) (all_held r list fs) (find (group_step list) g)
entries_told side text r (Shapes.Entries group) fs g h =
    let s = entries_step (group_name group) in
    let held = all_held r (Shapes.Entries group) fs in
    one_told side text s held [] g refl ∙ append-nil (listed_items side (further text s) held (find s g))
entries_told side text r (Shapes.Listed group table) fs g h = absurd cc
entries_told side text r (Shapes.Message family) fs g h = absurd cc
entries_told side text r (Shapes.Own table) fs g h = absurd cc
entries_told side text r (Shapes.Of place) fs g h = absurd cc
entries_told side text r Shapes.ProtoInet6 fs g h = absurd cc
entries_told side text r Shapes.Refused fs g h = absurd cc
entries_told side text r (Shapes.Info link port) fs g h = absurd cc

-- ** the same list of values among the members of another list

one_found : (s t : Step) (h : Held) (ms : List Member) (same : Bool) → comes t ms ≡ false → comes s ms ≡ false
    → is_step t s ≡ same → find s (forest ((t, h) ∷ ms)) ≡ cond same (Some h) None
one_found s t h ms same once none is =
    ap (λ b. find s (cond b (forest ms) (Forest.tree t h.0 h.1 (forest ms)))) once
    ∙ (λ k. cond (is k) (Some h) (find_none s ms none k))

module _ (r : Reading) where
  listed_found : (s : Step) (group : Group) (table : Table) (fs : List Frame) (same : Bool)
      → is_step (values_step (group_name group)) s ≡ same → is_step rest_step_now s ≡ false
      → find s (inner_of r (Shapes.Listed group table) fs)
      ≡ cond same (Some (all_held r (Shapes.Listed group table) fs)) None
  listed_found s group table fs same is other =
      let list = Shapes.Listed group table in
      let t = values_step (group_name group) in
      let hs = kept_in r list fs in
      let inside = kept_inside r list fs in
      let rest = list_by rest_step_now hs inside in
      one_found s t (all_held r list fs) rest same
      (list_lacks t rest_step_now hs inside refl) (list_lacks s rest_step_now hs inside other) is

  entries_found : (s : Step) (group : Group) (fs : List Frame) (same : Bool)
      → is_step (entries_step (group_name group)) s ≡ same
      → find s (inner_of r (Shapes.Entries group) fs)
      ≡ cond same (Some (all_held r (Shapes.Entries group) fs)) None
  entries_found s group fs same is =
      one_found s (entries_step (group_name group)) (all_held r (Shapes.Entries group) fs) [] same refl
      refl is

  pub group_beside : (own other : Shape) (fs : List Frame) → is_group own ≡ true
      → find (group_step own) (inner_of r other fs)
      ≡ cond (is_same_group own other) (Some (all_held r other fs)) None
  group_beside (Shapes.Listed one table) (Shapes.Listed two other) fs h =
      listed_found (values_step (group_name one)) two other fs (is_text (group_name two) (group_name one)) refl refl
  group_beside (Shapes.Listed one table) (Shapes.Entries two) fs h =
      entries_found (values_step (group_name one)) two fs false refl
  group_beside (Shapes.Entries one) (Shapes.Listed two other) fs h =
      listed_found (entries_step (group_name one)) two other fs false refl refl
  group_beside (Shapes.Entries one) (Shapes.Entries two) fs h =
      entries_found (entries_step (group_name one)) two fs (is_text (group_name two) (group_name one)) refl
  group_beside (Shapes.Listed one table) (Shapes.Message family) fs h =
      none_in_object r (Shapes.Message family) fs (values_step (group_name one)) refl refl
  group_beside (Shapes.Listed one table) (Shapes.Own other) fs h =
      none_in_object r (Shapes.Own other) fs (values_step (group_name one)) refl refl
  group_beside (Shapes.Listed one table) (Shapes.Of place) fs h =
      none_in_object r (Shapes.Of place) fs (values_step (group_name one)) refl refl
  group_beside (Shapes.Listed one table) Shapes.ProtoInet6 fs h =
      none_in_object r Shapes.ProtoInet6 fs (values_step (group_name one)) refl refl
  group_beside (Shapes.Listed one table) Shapes.Refused fs h =
      none_in_object r Shapes.Refused fs (values_step (group_name one)) refl refl
  group_beside (Shapes.Listed one table) (Shapes.Info link port) fs h =
      none_in_object r (Shapes.Info link port) fs (values_step (group_name one)) refl refl
  group_beside (Shapes.Entries one) (Shapes.Message family) fs h =
      none_in_object r (Shapes.Message family) fs (entries_step (group_name one)) refl refl
  group_beside (Shapes.Entries one) (Shapes.Own other) fs h =
      none_in_object r (Shapes.Own other) fs (entries_step (group_name one)) refl refl
  group_beside (Shapes.Entries one) (Shapes.Of place) fs h =
      none_in_object r (Shapes.Of place) fs (entries_step (group_name one)) refl refl
  group_beside (Shapes.Entries one) Shapes.ProtoInet6 fs h =
      none_in_object r Shapes.ProtoInet6 fs (entries_step (group_name one)) refl refl
  group_beside (Shapes.Entries one) Shapes.Refused fs h =
      none_in_object r Shapes.Refused fs (entries_step (group_name one)) refl refl
  group_beside (Shapes.Entries one) (Shapes.Info link port) fs h =
      none_in_object r (Shapes.Info link port) fs (entries_step (group_name one)) refl refl
  group_beside (Shapes.Message family) other fs h = absurd cc
  group_beside (Shapes.Own table) other fs h = absurd cc
  group_beside (Shapes.Of place) other fs h = absurd cc
  group_beside Shapes.ProtoInet6 other fs h = absurd cc
  group_beside Shapes.Refused other fs h = absurd cc
  group_beside (Shapes.Info link port) other fs h = absurd cc

  pub rest_there : (list : Shape) (fs : List Frame) → (is_group list && not (is_entries list)) ≡ true
      → find rest_step_now (forest (others_at rest_step_now r list fs))
      ≡ find rest_step_now (inner_of r list fs)
  rest_there (Shapes.Listed group table) fs h =
      let list = Shapes.Listed group table in
      sym (find_back rest_step_now
      (group_of (values_step (group_name group)) (is_own_key None list) (group_values r list fs)
      (places (group_values r list fs)) ∷ [])
      (others_at rest_step_now r list fs) refl)
  rest_there (Shapes.Entries group) fs h = absurd cc
  rest_there (Shapes.Message family) fs h = absurd cc
  rest_there (Shapes.Own table) fs h = absurd cc
  rest_there (Shapes.Of place) fs h = absurd cc
  rest_there Shapes.ProtoInet6 fs h = absurd cc
  rest_there Shapes.Refused fs h = absurd cc
  rest_there (Shapes.Info link port) fs h = absurd cc

  pub no_rest : (list : Shape) (fs : List Frame) → (is_group list && not (is_entries list)) ≡ false
      → None ≡ find rest_step_now (inner_of r list fs)
  no_rest (Shapes.Listed group table) fs h = absurd cc
  no_rest (Shapes.Entries group) fs h = sym (entries_found rest_step_now group fs false refl)
  no_rest (Shapes.Message family) fs h = sym (none_in_object r (Shapes.Message family) fs rest_step_now refl refl)
  no_rest (Shapes.Own table) fs h = sym (none_in_object r (Shapes.Own table) fs rest_step_now refl refl)
  no_rest (Shapes.Of place) fs h = sym (none_in_object r (Shapes.Of place) fs rest_step_now refl refl)
  no_rest Shapes.ProtoInet6 fs h = sym (none_in_object r Shapes.ProtoInet6 fs rest_step_now refl refl)
  no_rest Shapes.Refused fs h = sym (none_in_object r Shapes.Refused fs rest_step_now refl refl)
  no_rest (Shapes.Info link port) fs h = sym (none_in_object r (Shapes.Info link port) fs rest_step_now refl refl)

-- ** those that are kept beside them

pub kept_runless : (is_state : Bool) (a : Attributes) → runs_inside (kept_inside_at is_state a) ≡ []
kept_runless is_state a = no_runs (labelled Keys.Number (labels_of (kept_numbers is_state a)) (kept_at is_state a))

pub kept_told : (side : Side) (text : List ℕ) (hs gs : List (Option Held)) (inside other g : Forest)
    → runs_inside inside ≡ [] → runs_inside other ≡ []
    → find rest_step_now (forest (list_by rest_step_now gs other)) ≡ find rest_step_now g
    → moved_items side (joined text (codes "other")) (list_of (flat_map value_in hs)) inside (list_beside gs other)
    ++ items_told side (joined text (codes "other")) inside other
    ≡ items_told side text (forest (list_by rest_step_now hs inside)) g
kept_told side text hs gs inside other g none none_too same =
    let all = list_by rest_step_now hs inside in
    let those = list_by rest_step_now gs other in
    sym (list_told side text rest_step_now hs gs inside other refl none none_too)
    ∙ same_told (λ s. s ≡ rest_step_now) side text (forest all) (forest those) g
    (forest_all (λ s. s ≡ rest_step_now) all (list_steps (λ s. s ≡ rest_step_now) rest_step_now hs inside refl))
    (λ s is. ap (λ t. find t (forest those)) is ∙ same ∙ ap (λ t. find t g) (sym is))

-- ** the first of them

pub none_there : (e : Option Attribute) → is_some_value e ≡ false → e ≡ None
none_there None h = refl
none_there (Some a) h = absurd cc

module _ (nest : Showing) (inner : Holding) (is_state : Bool) where
  pub value_taken : (picks : Option ℕ) (list : Shape) (cx : Around) (f : Frame) (e : Option Attribute)
      (it next : List Item)
      (all : List (Option Held)) → it ≡ Ok f ∷ next
      → picked nest inner is_state e ≡ picked_by (reading_at nest inner is_state cx) picks list f
      → picked_values (reading_at nest inner is_state cx) picks list (frames_in it) ≡ all → is_some_value e ≡ true
      → option_map (value_at nest inner is_state) e ≡ first_of all
  value_taken picks list cx f None it next all here looked was some = absurd cc
  value_taken picks list cx f (Some a) it next all here looked was some =
      ap first_of (sym (list_split nest inner is_state picks list cx f (Some a) it next here looked) ∙ was)

  pub rest_taken : (picks : Option ℕ) (list : Shape) (cx : Around) (f : Frame) (e : Option Attribute)
      (it next : List Item)
      (p : List ℕ) (all : List (Option Held)) → it ≡ Ok f ∷ next
      → picked nest inner is_state e ≡ picked_by (reading_at nest inner is_state cx) picks list f
      → picked_values (reading_at nest inner is_state cx) picks list (frames_in it) ≡ all → items p ≡ next
      → is_some_value e ≡ true
      → picked_values (reading_at nest inner is_state cx) picks list (frames_in (items p)) ≡ rest_of all
  rest_taken picks list cx f None it next p all here looked was left some = absurd cc
  rest_taken picks list cx f (Some a) it next p all here looked was left some =
      ap (λ xs. picked_values (reading_at nest inner is_state cx) picks list (frames_in xs)) left
      ∙ ap rest_of (sym (list_split nest inner is_state picks list cx f (Some a) it next here looked) ∙ was)

  pub none_taken : (picks : Option ℕ) (list : Shape) (cx : Around) (f : Frame) (e : Option Attribute)
      (it next : List Item)
      (all : List (Option Held)) → it ≡ Ok f ∷ next
      → picked nest inner is_state e ≡ picked_by (reading_at nest inner is_state cx) picks list f → e ≡ None
      → picked_values (reading_at nest inner is_state cx) picks list (frames_in it) ≡ all
      → picked_values (reading_at nest inner is_state cx) picks list (frames_in next) ≡ all
  none_taken picks list cx f e it next all here looked none was =
      sym (list_split nest inner is_state picks list cx f e it next here looked
      ∙ ap (λ o. picked nest inner is_state o ++ picked_values (reading_at nest inner is_state cx) picks list
      (frames_in next)) none)
      ∙ was

  -- ** none of them is an object or a list

  pub plain_next : (picks : Option ℕ) (list : Shape) (cx : Around) (f : Frame) (e : Option Attribute)
      (it next : List Item) (all : Bool)
      → it ≡ Ok f ∷ next
      → picked nest inner is_state e ≡ picked_by (reading_at nest inner is_state cx) picks list f
      → are_plain (picked nest inner is_state e) ≡ true
      → are_plain (picked_values (reading_at nest inner is_state cx) picks list (frames_in it)) ≡ all
      → are_plain (picked_values (reading_at nest inner is_state cx) picks list (frames_in next)) ≡ all
  plain_next picks list cx f e it next all here looked plain was =
      let behind = picked_values (reading_at nest inner is_state cx) picks list (frames_in next) in
      sym (ap are_plain (list_split nest inner is_state picks list cx f e it next here looked)
      ∙ plain_append (picked nest inner is_state e) behind
      ∙ ap (λ b. b && are_plain behind) plain)
      ∙ was

  pub not_plain : (picks : Option ℕ) (list : Shape) (cx : Around) (f : Frame) (e : Option Attribute)
      (it next : List Item) (all : Bool)
      → it ≡ Ok f ∷ next
      → picked nest inner is_state e ≡ picked_by (reading_at nest inner is_state cx) picks list f
      → are_plain (picked nest inner is_state e) ≡ false
      → are_plain (picked_values (reading_at nest inner is_state cx) picks list (frames_in it)) ≡ all
      → all ≡ false
  not_plain picks list cx f e it next all here looked nested was =
      let behind = picked_values (reading_at nest inner is_state cx) picks list (frames_in next) in
      sym was
      ∙ ap are_plain (list_split nest inner is_state picks list cx f e it next here looked)
      ∙ plain_append (picked nest inner is_state e) behind
      ∙ ap (λ b. b && are_plain behind) nested

pub none_kept : (is_state : Bool) (a : Attributes) → items a.bytes.now ≡ []
    → find rest_step_now (rest_forest is_state a) ≡ None
none_kept is_state a none =
    let cx = a.around.now in
    ap (λ xs. find rest_step_now (forest (list_by rest_step_now (kept_among is_state cx a.list (frames_in xs))
    (keyed Keys.Number (numbers_among is_state cx a.list (frames_in xs))
    (kept_among is_state cx a.list (frames_in xs)))))) none

-- ** lists of values as one value

module _ (nest : Showing) (inner : Holding) (is_state : Bool) (side : Side) (text : List ℕ) where
  abbrev held : Attributes → Held
  held a = group_held nest inner is_state a

  abbrev shown : Attributes → List Token
  shown a = flat_shown (nest a.around.now) a.around.now a.number a.list a.bytes.now

  abbrev pub IsPlain : Attributes → Type 0
  IsPlain a = (is_valued a.number a.list ≡ true) × (are_plain (group_at nest inner is_state a) ≡ true)

  shown_is : (a : Attributes) → IsPlain a → shown a ≡ (held a).0
  shown_is a plain = valued_shown nest inner is_state a.around.now a.number a.list a.bytes.now plain.0 plain.1

  pub flat_some : (own other : Attributes) (there : Option Attributes) (beside : Option (List Token))
      (page new : Draft) → IsPlain own → there ≡ Some other → IfSome there IsPlain
      → option_map (λ a. (held a).0) there ≡ beside
      → new ≡ with_members (objects (leaf_items side text (shown own) (Some (shown other)))) page
      → new ≡ with_members (objects (leaf_items side text (held own).0 beside)) page
  flat_some own other there beside page new plain is each same told =
      same_written (leaf_items side text (shown own) (Some (shown other)))
      (leaf_items side text (held own).0 beside) page new
      ((λ k. leaf_items side text (shown_is own plain k) (Some (shown_is other
      (subst (λ (t : Option Attributes). IfSome t IsPlain) is each) k)))
      ∙ ap (leaf_items side text (held own).0) (sym (ap (option_map (λ a. (held a).0)) is) ∙ same))
      told

  pub flat_none : (own : Attributes) (there : Option Attributes) (beside : Option (List Token)) (page new : Draft)
      → IsPlain own → there ≡ None → option_map (λ a. (held a).0) there ≡ beside
      → new ≡ with_members (objects (leaf_items side text (shown own) None)) page
      → new ≡ with_members (objects (leaf_items side text (held own).0 beside)) page
  flat_none own there beside page new plain is same told =
      same_written (leaf_items side text (shown own) None) (leaf_items side text (held own).0 beside) page new
      ((λ k. leaf_items side text (shown_is own plain k) None)
      ∙ ap (leaf_items side text (held own).0) (sym (ap (option_map (λ a. (held a).0)) is) ∙ same))
      told

-- ** the values of a list under its name

-- what is told, where its path and both values are the same
pub group_told : (side : Side) (text other : List ℕ) (h k : Held) (b d : Option Held) (was now : Draft)
    → text ≡ other → h ≡ k → b ≡ d
    → now ≡ with_members (objects (listed_items side text h b)) was
    → now ≡ with_members (objects (listed_items side other k d)) was
group_told side text other h k b d was now path held beside told =
    told ∙ (λ i. with_members (objects (listed_items side (path i) (held i) (beside i))) was)

-- ** lists in another order

-- members at labels, and members at places
loose_forest : (m : Member) (ms : List Member) → AreAt (λ s. is_label s ≡ true) (m ∷ ms)
    → is_loose (forest (m ∷ ms)) ≡ true
loose_forest m [] all = all.0
loose_forest m (n ∷ ms) all = by (comes m.0 (n ∷ ms)) (loose_forest n ms all.1)
  where
    by : (b : Bool) → is_loose (forest (n ∷ ms)) ≡ true
        → is_loose (cond b (forest (n ∷ ms)) (Forest.tree m.0 m.1.0 m.1.1 (forest (n ∷ ms)))) ≡ true
    by true later = later
    by false later = all.0

tight_forest : (ms : List Member) → AreAt (λ s. is_label s ≡ false) ms → is_loose (forest ms) ≡ false
tight_forest [] all = refl
tight_forest (m ∷ ms) all = by (comes m.0 ms) (tight_forest ms all.1)
  where
    by : (b : Bool) → is_loose (forest ms) ≡ false
        → is_loose (cond b (forest ms) (Forest.tree m.0 m.1.0 m.1.1 (forest ms))) ≡ false
    by true later = later
    by false later = all.0

labels_at : (key : Key) (ls : List Label) (hs : List (Option Held))
    → AreAt (λ s. is_label s ≡ true) (labelled key ls hs)
labels_at key [] hs = tt
labels_at key (l ∷ ls) [] = tt
labels_at key (l ∷ ls) (None ∷ hs) = labels_at key ls hs
labels_at key (l ∷ ls) (Some h ∷ hs) = (refl, labels_at key ls hs)

places_at : (n : ℕ) (hs : List (Option Held)) → AreAt (λ s. is_label s ≡ false) (placed n hs)
places_at n [] = tt
places_at n (None ∷ hs) = places_at (n + 1) hs
places_at n (Some h ∷ hs) = (refl, places_at (n + 1) hs)

labelled_loose : (key : Key) (ls : List Label) (hs : List (Option Held)) → length ls ≡ length hs
    → are_plain hs ≡ false → is_loose (forest (labelled key ls hs)) ≡ true
labelled_loose key [] [] long some = absurd cc
labelled_loose key (l ∷ ls) [] long some = absurd cc
labelled_loose key [] (h ∷ hs) long some = absurd cc
labelled_loose key (l ∷ ls) (None ∷ hs) long some = labelled_loose key ls hs (omega (arith, long)) some
labelled_loose key (l ∷ ls) (Some h ∷ hs) long some =
    loose_forest (label_step key l, h) (labelled key ls hs) (refl, labels_at key ls hs)

runs_loose : (found : Option (List Run)) (inside : Forest)
    → is_loose (runs_or (unless_empty found) inside) ≡ (is_some_value (unless_empty found) || is_loose inside)
runs_loose None inside = refl
runs_loose (Some []) inside = refl
runs_loose (Some (r ∷ rs)) inside = refl

picked_loose : (picks : Option ℕ) (list : Shape) (fs : List Frame) (inside : Forest)
    → is_loose (runs_or (runs_by picks list fs) inside) ≡ (is_some_value (runs_by picks list fs) || is_loose inside)
picked_loose (Some n) (Shapes.Of Places.BridgeSpec) fs inside = runs_loose (runs_in n fs) inside
picked_loose _ _ fs inside = refl

or_true : (b : Bool) → (b || true) ≡ true
or_true true = refl
or_true false = refl

or_false : (b : Bool) → (b || false) ≡ b
or_false true = refl
or_false false = refl

module _ (nest : Showing) (inner : Holding) (is_state : Bool) (a : Attributes) where
  abbrev numbers : List (Option ℕ)
  numbers = numbers_at nest inner is_state a

  abbrev values : List (Option Held)
  values = group_at nest inner is_state a

  abbrev inside_at : Option Key → Forest
  inside_at key = inside_of key numbers values

  whole_is : is_loose (group_inside nest inner is_state a)
      ≡ (is_some_value (runs_at a) || is_loose (inside_at (key_at a.number a.list)))
  whole_is = picked_loose a.number a.list (frames_in (items a.bytes.now)) (inside_at (key_at a.number a.list))

  pub key_loose : (key : Key) → key_at a.number a.list ≡ Some key → are_plain values ≡ false
      → is_loose (group_inside nest inner is_state a) ≡ true
  key_loose key is some =
      whole_is ∙ ap (λ k. is_some_value (runs_at a) || is_loose (inside_at k)) is
      ∙ ap (λ b. is_some_value (runs_at a) || b)
      (labelled_loose key (labels_of numbers) values (labels_long [] numbers
      ∙ numbers_long (number_in a.around.now (key_at a.number a.list) a.list)
      (picked_by (reading_at nest inner is_state a.around.now) a.number a.list) (frames_in (items a.bytes.now))
      ∙ ap length (picked_flat (reading_at nest inner is_state a.around.now) a.number a.list
      (frames_in (items a.bytes.now)))) some)
      ∙ or_true (is_some_value (runs_at a))

  pub place_tight : key_at a.number a.list ≡ None
      → is_loose (group_inside nest inner is_state a) ≡ is_some_value (runs_at a)
  place_tight is =
      whole_is ∙ ap (λ k. is_some_value (runs_at a) || is_loose (inside_at k)) is
      ∙ ap (λ b. is_some_value (runs_at a) || b) (tight_forest (placed 0 values) (places_at 0 values))
      ∙ or_false (is_some_value (runs_at a))

module _ (nest : Showing) (inner : Holding) (is_state : Bool) (side : Side) (text : List ℕ) (own : Attributes) where
  abbrev own_held : Held
  own_held = group_held nest inner is_state own

  abbrev beside_held : Option Attributes → Option Held
  beside_held beside = option_map (group_held nest inner is_state) beside

  abbrev moved : Option Attributes → List Members
  moved beside = moved_items side text own_held.0 own_held.1 (beside_held beside)

  pub moved_unless : is_moved side ≡ false → (beside : Option Attributes) → moved beside ≡ []
  moved_unless not beside =
      ap (λ b. cond b (whole_items (is_loose own_held.1) text own_held.0 (beside_held beside)) []) not

  pub moved_alone : moved None ≡ []
  moved_alone = by (is_moved side)
    where
      by : (b : Bool) → cond b (whole_items (is_loose own_held.1) text own_held.0 None) [] ≡ []
      by true = refl
      by false = refl

  own_loose : are_plain (group_at nest inner is_state own) ≡ false
      → is_loose own_held.1 ≡ is_loose (group_inside nest inner is_state own)
  own_loose some = ap is_loose (inside_here (is_own_key own.number own.list) (group_at nest inner is_state own)
      (group_inside nest inner is_state own) some)

  pub moved_tight : are_plain (group_at nest inner is_state own) ≡ false
      → is_loose (group_inside nest inner is_state own) ≡ false → (beside : Option Attributes) → moved beside ≡ []
  moved_tight some tight beside =
      ap (λ o. cond (is_moved side) (whole_items o text own_held.0 (beside_held beside)) []) (own_loose some ∙ tight)
      ∙ by (is_moved side) (beside_held beside)
    where
      by : (b : Bool) (o : Option Held) → cond b (whole_items false text own_held.0 o) [] ≡ []
      by true None = refl
      by true (Some h) = refl
      by false o = refl

  pub moved_whole : are_plain (group_at nest inner is_state own) ≡ false → is_moved side ≡ true
      → is_loose (group_inside nest inner is_state own) ≡ true → (other : Attributes)
      → moved (Some other) ≡ leaf_items Old text own_held.0 (Some (group_held nest inner is_state other).0)
  moved_whole some is loose other = λ k.
      cond (is k) (whole_items ((own_loose some ∙ loose) k) text own_held.0 (beside_held (Some other))) []

-- ** entries, as they are told as a whole

module _ (nest : Showing) (inner : Holding) (is_state : Bool) (cx : Around) (group : Group) where
  abbrev entry_reading : Reading
  entry_reading = reading_at nest inner is_state cx

  entry_shown : (g : Group) (p : List ℕ)
      → list_shown (nest cx) cx (entry_list g) (settled is_state (entry_list g) p)
      ≡ (entry_of entry_reading (entry_list g) p).0
  entry_shown Groups.AltIfname p = refl
  entry_shown Groups.Info p = refl
  entry_shown Groups.Port p = refl

  settled_shown : (fs : List Frame)
      → flat_map (list_shown (nest cx) cx (entry_list group)) (settled_in is_state group fs)
      ≡ flat_map value_in (entries_in entry_reading (entry_list group) fs)
  settled_shown [] = refl
  settled_shown (f ∷ fs) = by (number f == 1) (settled_shown fs)
    where
      by : (b : Bool) → flat_map (list_shown (nest cx) cx (entry_list group)) (settled_in is_state group fs)
          ≡ flat_map value_in (entries_in entry_reading (entry_list group) fs)
          → flat_map (list_shown (nest cx) cx (entry_list group))
          (cond b (settled is_state (entry_list group) f.payload ∷ []) [] ++ settled_in is_state group fs)
          ≡ flat_map value_in (cond b (Some (entry_of entry_reading (entry_list group) f.payload) ∷ []) []
          ++ entries_in entry_reading (entry_list group) fs)
      by true later = λ k. entry_shown group f.payload k ++ later k
      by false later = later

  mapped_shown : (es : List (Vec ℕ)) → flat_map (λ (e : Vec ℕ). list_shown (nest cx) cx (entry_list group) e.items) es
      ≡ flat_map (list_shown (nest cx) cx (entry_list group)) (map (λ (e : Vec ℕ). e.items) es)
  mapped_shown [] = refl
  mapped_shown (e ∷ es) = ap (λ ts. list_shown (nest cx) cx (entry_list group) e.items ++ ts) (mapped_shown es)

pub entries_are : (nest : Showing) (inner : Holding) (is_state : Bool) (a : Attributes) (group : Group)
    (es : List (Vec ℕ)) → a.number ≡ None → Shapes.Entries group ≡ a.list
    → map (λ (e : Vec ℕ). e.items) es ≡ settled_in is_state group (frames_in (items a.bytes.now))
    → list_of (flat_map (λ (e : Vec ℕ). list_shown (nest a.around.now) a.around.now (entry_list group) e.items) es)
    ≡ (group_held nest inner is_state a).0
entries_are nest inner is_state a group es none is are =
    let cx = a.around.now in
    let fs = frames_in (items a.bytes.now) in
    ap list_of (mapped_shown nest inner is_state cx group es
    ∙ ap (flat_map (list_shown (nest cx) cx (entry_list group))) are
    ∙ settled_shown nest inner is_state cx group fs)
    ∙ (λ k. list_of (flat_map value_in (picked_values (reading_at nest inner is_state cx) (sym none k) (is k) fs)))

-- ** lists that are one value

module _ (nest : Showing) (inner : Holding) (is_state : Bool) (side : Side) (text : List ℕ) (own : Attributes)
    (beside : Option Held) (plain : are_plain (group_at nest inner is_state own) ≡ true) where
  abbrev flat_held : Held
  flat_held = group_held nest inner is_state own

  flat_is : flat_held.1 ≡ flat_inside (is_own_key own.number own.list) (group_at nest inner is_state own)
  flat_is = inside_none (is_own_key own.number own.list) (group_at nest inner is_state own)
      (group_inside nest inner is_state own) plain

  -- none is told as a list in another order
  pub plain_listed : held_items side text flat_held beside ≡ listed_items side text flat_held beside
  plain_listed = sym (ap (λ os. os ++ held_items side text flat_held beside)
      (ap (λ o. cond (is_moved side) (whole_items o text flat_held.0 beside) [])
      (ap is_loose flat_is ∙ tight (is_own_key own.number own.list) (group_at nest inner is_state own))
      ∙ by (is_moved side) beside))
    where
      tight : (key : Bool) (hs : List (Option Held)) → is_loose (flat_inside key hs) ≡ false
      tight true hs = refl
      tight false hs = refl

      by : (b : Bool) (o : Option Held) → cond b (whole_items false text flat_held.0 o) [] ≡ []
      by true None = refl
      by true (Some h) = refl
      by false o = refl

  -- one value, or values that are their own keys
  pub flat_told : is_own_key own.number own.list ≡ false
      → leaf_items side text flat_held.0 (leaf_in beside) ≡ held_items side text flat_held beside
  flat_told other = sym (ap (λ f. member_items side text flat_held.0 f (items_told side text f) beside)
      (flat_is ∙ ap (λ k. flat_inside k (group_at nest inner is_state own)) other))

  pub keys_told : is_own_key own.number own.list ≡ true
      → texts_items side text flat_held.0 (map value_in (group_at nest inner is_state own)) beside
      ≡ held_items side text flat_held beside
  keys_told key = sym (ap (λ f. member_items side text flat_held.0 f (items_told side text f) beside)
      (flat_is ∙ ap (λ k. flat_inside k (group_at nest inner is_state own)) key))

-- ** values that are their own keys

pub mapped_some : {X Y : Type 0} (f : X → Y) (o : Option X)
    → is_some_value (option_map f o) ≡ is_some_value o
mapped_some f None = refl
mapped_some f (Some x) = refl

pub nothing_moved : (os : List Members) (page : Draft) → os ≡ [] → page ≡ with_members (objects os) page
nothing_moved os page none = sym (ap (λ l. with_members (objects l) page) none)

-- such a list is one of values, and none of entries
pub key_valued : (picks : Option ℕ) (list : Shape) → is_own_key picks list ≡ true → is_valued picks list ≡ true
key_valued None (Shapes.Listed group table) key = refl
key_valued (Some n) list key = refl
key_valued None (Shapes.Entries group) key = refl
key_valued None (Shapes.Message family) key = absurd cc
key_valued None (Shapes.Own table) key = absurd cc
key_valued None (Shapes.Of place) key = absurd cc
key_valued None Shapes.ProtoInet6 key = absurd cc
key_valued None Shapes.Refused key = absurd cc
key_valued None (Shapes.Info link port) key = absurd cc

pub key_entries : (picks : Option ℕ) (list : Shape) → is_own_key picks list ≡ true → is_entries list ≡ false
key_entries None (Shapes.Listed group table) key = refl
key_entries (Some n) (Shapes.Of place) key = refl
key_entries None (Shapes.Entries group) key = absurd cc
key_entries (Some n) (Shapes.Entries group) key = absurd cc
key_entries _ (Shapes.Message family) key = refl
key_entries _ (Shapes.Own table) key = refl
key_entries None (Shapes.Of place) key = refl
key_entries (Some n) (Shapes.Listed group table) key = refl
key_entries _ Shapes.ProtoInet6 key = refl
key_entries _ Shapes.Refused key = refl
key_entries _ (Shapes.Info link port) key = refl

module _ (nest : Showing) (inner : Holding) (is_state : Bool) where
  payload_shown : (a : Attribute) → is_entries a.list ≡ false
      → (value_at nest inner is_state a).0 ≡ way_shown (nest a.around.now) a.around.now a.way a.payload.now
  payload_shown a none = by a.list none
    where
      by : (list : Shape) → is_entries list ≡ false
          → (value_by nest inner is_state list a).0 ≡ way_shown (nest a.around.now) a.around.now a.way a.payload.now
      by (Shapes.Listed group table) none = refl
      by (Shapes.Entries group) none = absurd cc
      by (Shapes.Message family) none = refl
      by (Shapes.Own table) none = refl
      by (Shapes.Of place) none = refl
      by Shapes.ProtoInet6 none = refl
      by Shapes.Refused none = refl
      by (Shapes.Info link port) none = refl

  pub one_pushed : (cx : Around) (own : Attribute) (value : Option Attribute) (vs ws : List Value)
      → value ≡ Some own → IfSome value (λ a. is_entries a.list ≡ false) → IfSome value (λ a. a.around.now ≡ cx)
      → ws ≡ vs ++ Values.Payload own.way own.payload ∷ []
      → map (value_shown (nest cx) cx) ws
      ≡ map (value_shown (nest cx) cx) vs ++ map value_in (picked nest inner is_state value)
  one_pushed cx own value vs ws is none around pushed =
      let none_own : is_entries own.list ≡ false = subst (λ o. IfSome o (λ a. is_entries a.list ≡ false)) is none in
      let around_own : own.around.now ≡ cx = subst (λ o. IfSome o (λ a. a.around.now ≡ cx)) is around in
      ap (map (value_shown (nest cx) cx)) pushed
      ∙ map-append (value_shown (nest cx) cx) vs (Values.Payload own.way own.payload ∷ [])
      ∙ (λ k. map (value_shown (nest cx) cx) vs ++ way_shown (nest (sym around_own k)) (sym around_own k) own.way
      own.payload.now ∷ [])
      ∙ ap (λ t. map (value_shown (nest cx) cx) vs ++ t ∷ []) (sym (payload_shown own none_own))
      ∙ ap (λ o. map (value_shown (nest cx) cx) vs ++ map value_in (picked nest inner is_state o)) (sym is)

  pub none_pushed : (cx : Around) (value : Option Attribute) (vs : List Value) → value ≡ None
      → map (value_shown (nest cx) cx) vs
      ≡ map (value_shown (nest cx) cx) vs ++ map value_in (picked nest inner is_state value)
  none_pushed cx value vs is =
      sym (append-nil (map (value_shown (nest cx) cx) vs))
      ∙ ap (λ o. map (value_shown (nest cx) cx) vs ++ map value_in (picked nest inner is_state o)) (sym is)

  abbrev values_left_in : Attributes → List Item → List (List Token)
  values_left_in list it =
      map value_in (picked_values (reading_at nest inner is_state list.around.now) list.number list.list (frames_in it))

  pub each_further : (list : Attributes) (f : Frame) (e : Option Attribute) (it next : List Item)
      (ts us : List (List Token)) → it ≡ Ok f ∷ next
      → picked nest inner is_state e
      ≡ picked_by (reading_at nest inner is_state list.around.now) list.number list.list f
      → us ≡ ts ++ map value_in (picked nest inner is_state e)
      → ts ++ values_left_in list it ≡ map value_in (group_at nest inner is_state list)
      → us ++ values_left_in list next ≡ map value_in (group_at nest inner is_state list)
  each_further list f e it next ts us here looked pushed was =
      let one = picked nest inner is_state e in
      let reading = reading_at nest inner is_state list.around.now in
      let rest = picked_values reading list.number list.list (frames_in next) in
      ap (λ l. l ++ map value_in rest) pushed
      ∙ append_assoc ts (map value_in one) (map value_in rest)
      ∙ ap (λ l. ts ++ l) (sym (map-append value_in one rest)
      ∙ ap (map value_in) (sym (list_split nest inner is_state list.number list.list list.around.now f e it next here
      looked)))
      ∙ was

  pub each_over : (list : Attributes) (it : List Item) (ts : List (List Token)) → frames_in it ≡ []
      → ts ++ values_left_in list it ≡ map value_in (group_at nest inner is_state list)
      → ts ≡ map value_in (group_at nest inner is_state list)
  each_over list it ts over was =
      sym (append-nil ts)
      ∙ ap (λ l. ts ++ map value_in l) (sym (ap (picked_values (reading_at nest inner is_state list.around.now)
      list.number list.list) over ∙ picked_none (reading_at nest inner is_state list.around.now) list.number list.list))
      ∙ was

  pub shown_flat : (list : Attributes) → is_valued list.number list.list ≡ true
      → are_plain (group_at nest inner is_state list) ≡ true
      → flat_shown (nest list.around.now) list.around.now list.number list.list list.bytes.now
      ≡ (group_held nest inner is_state list).0
  shown_flat list valued plain =
      valued_shown nest inner is_state list.around.now list.number list.list list.bytes.now valued plain

  pub whole_shown_is : (list : Attributes) → is_valued list.number list.list ≡ true → is_entries list.list ≡ false
      → flat_shown (nest list.around.now) list.around.now list.number list.list list.bytes.now
      ≡ (group_held nest inner is_state list).0
  whole_shown_is list valued none =
      list_shown_is nest inner is_state list.around.now list.number list.list list.bytes.now valued none

pub list_entries : (e : Option Attribute) (list : Shape) → is_entries list ≡ false → IfSome e (λ a. a.list ≡ list)
    → IfSome e (λ a. is_entries a.list ≡ false)
list_entries None list none are = tt
list_entries (Some a) list none are = ap is_entries are ∙ none

pub subst_some : (P : Attributes → Type 0) (e : Option Attributes) (a : Attributes) → e ≡ Some a → IfSome e P → P a
subst_some P e a is all = subst (λ o. IfSome o P) is all

pub same_beside : (e : Option Attributes) (a : Attributes) (beside : Option Attributes) → e ≡ Some a
    → IfSome e (λ b. beside ≡ Some b) → beside ≡ Some a
same_beside e a beside is all = subst (λ o. IfSome o (λ b. beside ≡ Some b)) is all

-- ** such a list beside another one

texts_alone : (side : Side) (text : List ℕ) (v : List Token) (vs : List (List Token)) (b : Option Held)
    → leaf_in b ≡ None → texts_items side text v vs b ≡ alone_texts side text v vs None
texts_alone side text v vs None none = refl
texts_alone side text v vs (Some (w, Forest.none)) none = absurd cc
texts_alone side text v vs (Some (w, Forest.passed)) none = refl
texts_alone side text v vs (Some (w, Forest.vlans runs)) none = refl
texts_alone side text v vs (Some (w, Forest.texts ws)) none = absurd cc
texts_alone side text v vs (Some (w, Forest.tree a b c d)) none = refl

pub none_leaf : (nest : Showing) (inner : Holding) (is_state : Bool) (e : Option Attributes) (b : Option Held)
    → e ≡ None → option_map (λ a. (group_held nest inner is_state a).0) e ≡ leaf_in b → leaf_in b ≡ None
none_leaf nest inner is_state e b is same =
    sym same ∙ ap (option_map (λ a. (group_held nest inner is_state a).0)) is

module _ (nest : Showing) (inner : Holding) (is_state : Bool) (side : Side) (text : List ℕ) (own : Attributes)
    (plain : are_plain (group_at nest inner is_state own) ≡ true) (key : is_own_key own.number own.list ≡ true) where
  abbrev key_held : Held
  key_held = group_held nest inner is_state own

  abbrev key_values : Attributes → List (List Token)
  key_values a = map value_in (group_at nest inner is_state a)

  other_is : (other : Attributes) → are_plain (group_at nest inner is_state other) ≡ true
      → (group_held nest inner is_state other).1
      ≡ flat_inside (is_own_key other.number other.list) (group_at nest inner is_state other)
  other_is other plain_too = inside_none (is_own_key other.number other.list) (group_at nest inner is_state other)
      (group_inside nest inner is_state other) plain_too

  pub keys_alone : (b : Option Held) → leaf_in b ≡ None
      → alone_texts side text key_held.0 (key_values own) None ≡ held_items side text key_held b
  keys_alone b none =
      sym (texts_alone side text key_held.0 (key_values own) b none)
      ∙ keys_told nest inner is_state side text own b plain key

  pub keys_flat : (other : Attributes) → are_plain (group_at nest inner is_state other) ≡ true
      → is_own_key other.number other.list ≡ false
      → leaf_items side text key_held.0 (Some (group_held nest inner is_state other).0)
      ≡ held_items side text key_held (Some (group_held nest inner is_state other))
  keys_flat other plain_too none =
      let w = (group_held nest inner is_state other).0 in
      sym (ap (λ f. texts_items side text key_held.0 (key_values own) (Some (w, f)))
      (other_is other plain_too ∙ ap (λ k. flat_inside k (group_at nest inner is_state other)) none))
      ∙ keys_told nest inner is_state side text own (Some (group_held nest inner is_state other)) plain key

  pub keys_both : (other : Attributes) → are_plain (group_at nest inner is_state other) ≡ true
      → is_own_key other.number other.list ≡ true
      → cond (is_shown_same key_held.0 (group_held nest inner is_state other).0) []
      (texts_by side text key_held.0 (key_values own) (group_held nest inner is_state other).0 (key_values other))
      ≡ held_items side text key_held (Some (group_held nest inner is_state other))
  keys_both other plain_too key_too =
      let w = (group_held nest inner is_state other).0 in
      sym (ap (λ f. texts_items side text key_held.0 (key_values own) (Some (w, f)))
      (other_is other plain_too ∙ ap (λ k. flat_inside k (group_at nest inner is_state other)) key_too))
      ∙ keys_told nest inner is_state side text own (Some (group_held nest inner is_state other)) plain key

-- ** what is written, with other values that are the same

pub leaf_written : (side : Side) (text : List ℕ) (v w x y : List Token) (page new : Draft) → v ≡ x → w ≡ y
    → new ≡ with_members (objects (leaf_items side text v (Some w))) page
    → new ≡ with_members (objects (leaf_items side text x (Some y))) page
leaf_written side text v w x y page new one two told =
    told ∙ (λ k. with_members (objects (leaf_items side text (one k) (Some (two k)))) page)

pub both_written : (side : Side) (text : List ℕ) (v w x y : List Token) (vs ws xs ys : List (List Token))
    (page new : Draft) → v ≡ x → w ≡ y → vs ≡ xs → ws ≡ ys
    → new ≡ with_members (objects (cond (is_shown_same v w) [] (texts_by side text v vs w ws))) page
    → new ≡ with_members (objects (cond (is_shown_same x y) [] (texts_by side text x xs y ys))) page
both_written side text v w x y vs ws xs ys page new one two ones twos told = told
    ∙ (λ k. with_members (objects (cond (is_shown_same (one k) (two k)) []
    (texts_by side text (one k) (ones k) (two k) (twos k)))) page)

pub alone_written : (side : Side) (text : List ℕ) (v x : List Token) (vs xs : List (List Token)) (page new : Draft)
    → v ≡ x → vs ≡ xs → new ≡ with_members (objects (alone_texts side text v vs None)) page
    → new ≡ with_members (objects (alone_texts side text x xs None)) page
alone_written side text v x vs xs page new one ones told =
    told ∙ (λ k. with_members (objects (alone_texts side text (one k) (ones k) None)) page)

pub beside_written : (nest : Showing) (inner : Holding) (is_state : Bool) (side : Side) (text : List ℕ)
    (own : Held) (a b : Option Held) (page new : Draft) → a ≡ b
    → new ≡ with_members (objects (held_items side text own a)) page
    → new ≡ with_members (objects (held_items side text own b)) page
beside_written nest inner is_state side text own a b page new is told =
    told ∙ ap (λ o. with_members (objects (held_items side text own o)) page) is
