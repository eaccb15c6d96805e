-- The members of a message are of their sorts, at every level, and so are the paths of its leaves.
use Rattle.std.proofs.Common.{◌≡◌, ℕ, zero, suc, ◌≤◌, Bool, true, false, List, [], ◌∷◌, ◌++◌, map, arith, length}
use Rattle.std.proofs.Common.{length-append, refl}
use Rattle.std.proofs.Common.{◌∙◌, ◌<◌, ◌^◌, ap, eqb-true}
use Rattle.std.proofs.lemmas.Bool.{and_parts}
use Rattle.std.proofs.lemmas.List.{length-map}
use Rattle.std.specs.Prelude.{Option, Some, None, codes, cond, slice_index, ◌==◌, ◌&&◌}
use Rattle.nla_wire.specs.Frames.{Frame, number}
use Rattle.nla_wire.specs.Items.{items}
use Rattle.link_info.specs.Rows.{AreAllRows}
use Rattle.link_info.specs.Tables.{frames_in}
use Rattle.shown.specs.Drafts.{Members}
use Rattle.frame_shown.specs.Kept.{frame_members}
use Rattle.frame_shown.specs.Messages.{address_len, header_members, with_address_len}
use Rattle.frame_shown.specs.Tables.{Known, entry_list, group_name, is_kept, kind_shown, row_in, is_each, lists_in}
use Rattle.frame_shown.specs.declared.form.Around.{Around}
use Rattle.frame_shown.specs.declared.form.Group.{Group}
use Rattle.frame_shown.specs.declared.form.Group.TheVariants as Groups
use Rattle.frame_shown.specs.declared.form.List.{List as Shape}
use Rattle.frame_shown.specs.declared.form.List.TheVariants as Shapes
use Rattle.frame_diff.specs.Counters.{action_in, is_passed}
use Rattle.frame_diff.specs.Forests.{Forest, Held, Leaf, Member, Path, Step, comes, entries_step, leaves}
use Rattle.frame_diff.specs.Forests.{leaves_at, rest_step, under, values_step}
use Rattle.frame_diff.specs.Items.{step_text}
use Rattle.frame_diff.specs.Keys.{key_at, number_in}
use Rattle.frame_diff.specs.Members.{Parts, Reading, alone, as_object, attributes_in, earlier, entries_in, entry_of}
use Rattle.frame_diff.specs.Members.{entries_inside, entry_with, inside_with}
use Rattle.frame_diff.specs.Members.{is_unnamed, array_at, arrays_in, arrays_of, value_with, values_with}
use Rattle.frame_diff.specs.Members.{frame_member, held_by, is_some, kept_in, kept_inside, kept_with, list_at}
use Rattle.frame_diff.specs.Members.{list_members, others_at}
use Rattle.frame_diff.specs.Members.{inside_of, members_in, message_forest, message_made, message_members, named}
use Rattle.frame_diff.specs.Members.{named_in, numbers_by, places, reading, refused_in, refused_step, runs_by}
use Rattle.frame_diff.specs.Members.{values_inside}
use Rattle.frame_diff.specs.PathTexts.{IsRead}
use Rattle.frame_diff.specs.declared.keys.Key.TheVariants as Keys
use Rattle.frame_diff.proofs.Apart.{runs_apart}
use Rattle.frame_diff.proofs.PathTexts.{Sort, Stands, StandsIn, Whose, array_stands, is_array, name_stands}
use Rattle.frame_diff.proofs.PathTexts.{whose_entry, within}
use Rattle.frame_diff.proofs.PathTextsNames.{AllFit as ListsFit, is_known, is_values, lists_fit, row_fits, row_named}
use Rattle.frame_diff.proofs.PathTextsNames.{rows_suit}
use Rattle.frame_diff.proofs.PathTextsNames.{sort_of, sort_of_each, value_fits, value_named, way_fits, whose_place}
use Rattle.frame_diff.proofs.PathTextsNames.{whose_table}
use Rattle.frame_diff.proofs.PathTextsFits.{AllFit, AreFew, AreShort, Fits, HeldFit, InnerFits}
use Rattle.frame_diff.proofs.PathTextsFits.{IsShort, append_fits, inside_fit}
use Rattle.frame_diff.proofs.PathTextsFits.{each_held, few_in, fields_fit, flat_fits, forest_fits, held_append}
use Rattle.frame_diff.proofs.PathTextsFits.{held_fits, keyed_fit, left_fits, listed_fit, places_fit, runs_fit}
use Rattle.frame_diff.proofs.PathTextsFits.{unless_fits}
use Rattle.frame_shown.specs.Items.{Lists}
use Rattle.frame_diff.specs.Members.{is_own_key}

-- ** attributes

module _ (r : Reading) (fit : InnerFits r.inner) (list : Shape) where
  abbrev row : Frame → Known
  row f = row_in r.around list (number f)

  -- what has a name is a member of it
  module _ (whose : Whose)
      (rows : (n : ℕ) → row_fits (Sort.attributes whose) (row_in r.around list n) ≡ true) where
    abbrev own : Sort
    own = Sort.attributes whose

    named_one : (f : Frame) → IsShort f.payload → AllFit own (frame_member r list f)
    named_one f short = by (is_unnamed (row f).1 f.payload) refl
      where
        by : (b : Bool) → is_unnamed (row f).1 f.payload ≡ b
            → AllFit own (cond b [] ((
              Step.name (row f).0,
              held_by r (action_in r.is_state list (number f)) (row f).1 f.payload,
            ) ∷ []))
        by true is = tt
        by false is =
            let both = row_named own (row f) f.payload (rows (number f)) is in (
              name_stands whose (row f).0 both.0,
              held_fits r.inner fit (within own (row f).0) r.around (action_in r.is_state list (number f)) (row f).1
                  f.payload short both.1,
              tt,
            )

    named_all : (fs : List Frame) → AreShort fs → AllFit own (named_in r list fs)
    named_all [] short = tt
    named_all (f ∷ fs) short =
        append_fits own (frame_member r list f) (named_in r list fs) (named_one f short.0) (named_all fs short.1)

  -- those that stand in a list hold no more than fields
  module _ (rows : (n : ℕ) → value_fits (row_in r.around list n) ≡ true) where
    value_one : (f : Frame) → IsShort f.payload
        → HeldFit Sort.fields (map (λ (m : Member). Some m.1) (frame_member r list f))
    value_one f short = by (is_unnamed (row f).1 f.payload) refl
      where
        by : (b : Bool) → is_unnamed (row f).1 f.payload ≡ b
            → HeldFit Sort.fields (map (λ (m : Member). Some m.1) (cond b [] ((
              Step.name (row f).0,
              held_by r (action_in r.is_state list (number f)) (row f).1 f.payload,
            ) ∷ [])))
        by true is = tt
        by false is = (
          held_fits r.inner fit Sort.fields r.around (action_in r.is_state list (number f)) (row f).1 f.payload short
              (value_named (row f) f.payload (rows (number f)) is),
          tt,
        )

    values_all : (fs : List Frame) → AreShort fs
        → HeldFit Sort.fields (map (λ (m : Member). Some m.1) (named_in r list fs))
    values_all [] short = tt
    values_all (f ∷ fs) short =
        held_both (frame_member r list f) (named_in r list fs) (value_one f short.0) (values_all fs short.1)
      where
        held_both : (xs ys : List Member) → HeldFit Sort.fields (map (λ (m : Member). Some m.1) xs)
            → HeldFit Sort.fields (map (λ (m : Member). Some m.1) ys)
            → HeldFit Sort.fields (map (λ (m : Member). Some m.1) (xs ++ ys))
        held_both [] ys h k = k
        held_both (x ∷ xs) ys h k = (h.0, held_both xs ys h.1 k)

-- ** attributes that are the values of lists

module _ (r : Reading) (fit : InnerFits r.inner) (list : Shape) where
  module _ (n : ℕ) (sort : Sort) (way : way_fits sort (row_in r.around list n).1 ≡ true) where
    each_fit : (f : Frame) → IsShort f.payload → HeldFit sort (value_with r list n f)
    each_fit f short = by (number f == n) refl (is_each (row_in r.around list (number f)).1)
      where
        by : (b : Bool) → (number f == n) ≡ b → (c : Bool)
            → HeldFit sort (cond b (cond c (Some (held_by r (action_in r.is_state list (number f))
            (row_in r.around list (number f)).1 f.payload) ∷ []) []) [])
        by true is true = (
          held_fits r.inner fit sort r.around (action_in r.is_state list (number f))
              (row_in r.around list (number f)).1 f.payload short
              (ap (λ k. way_fits sort (row_in r.around list k).1) (eqb-true (number f) n is) ∙ way),
          tt,
        )
        by true is false = tt
        by false is c = tt

    each_all : (fs : List Frame) → AreShort fs → HeldFit sort (values_with r list n fs)
    each_all [] short = tt
    each_all (f ∷ fs) short =
        held_append sort (value_with r list n f) (values_with r list n fs) (each_fit f short.0) (each_all fs short.1)

  each_one : (n : ℕ) (f : Frame) → length (value_with r list n f) ≤ 1
  each_one n f =
      by (held_by r (action_in r.is_state list (number f)) (row_in r.around list (number f)).1 f.payload)
      (number f == n) (is_each (row_in r.around list (number f)).1)
    where
      by : (held : Held) (b c : Bool) → length (cond b (cond c (Some held ∷ []) []) []) ≤ 1
      by held true true = omega arith
      by held true false = omega arith
      by held false c = omega arith

  array_inside : (sort : Sort) (n : ℕ) (fs : List Frame) → is_values sort ≡ true → length fs < 2 ^ 64
      → HeldFit (sort_of_each sort) (values_with r list n fs)
      → Fits sort (values_inside (is_own_key (Some n) list) (values_with r list n fs) (inside_with r list n fs))
  array_inside (Sort.values sort) n fs is few h =
      let key = key_at (Some n) list in
      let hs = values_with r list n fs in
      inside_fit sort (is_own_key (Some n) list) hs (inside_with r list n fs)
      (runs_fit sort (runs_by (Some n) list fs)
      (inside_of key (numbers_by (number_in r.around key list) (value_with r list n) fs) hs)
      (runs_apart (Some n) list fs)
      (listed_fit sort r.around list (value_with r list n) (each_one n) key fs few h))
  array_inside sort n fs is few h = absurd cc

  array_fits : (whose : Whose) (name : List ℕ) (own : Bool) (hs : List (Option Held)) (inside : Forest)
      → is_array whose name ≡ true → Fits (within (Sort.attributes whose) name) (values_inside own hs inside)
      → AllFit (Sort.attributes whose) (array_at name own hs inside)
  array_fits whose name own [] inside is h = tt
  array_fits whose name own (x ∷ hs) inside is h = (array_stands whose name is, h, tt)

  arrays_fit : (whose : Whose) (lists : Lists) → ListsFit whose (row_in r.around list) lists → (fs : List Frame)
      → AreFew fs → AllFit (Sort.attributes whose) (arrays_of r list lists fs)
  arrays_fit whose [] all fs few = tt
  arrays_fit whose (l ∷ lists) all fs few =
      let own = within (Sort.attributes whose) l.1 in
      let hs = values_with r list l.0 fs in
      let way = way_fits (sort_of_each own) (row_in r.around list l.0).1 in
      let first = and_parts (is_array whose l.1) (is_values own && way) all.0 in
      let second = and_parts (is_values own) way first.1 in
      let inside = inside_with r list l.0 fs in
      let key = is_own_key (Some l.0) list in
      append_fits (Sort.attributes whose) (array_at l.1 key hs inside) (arrays_of r list lists fs)
      (array_fits whose l.1 key hs inside first.0 (array_inside own l.0 fs second.0 few.0
      (each_all l.0 (sort_of_each own) second.1 fs few.1)))
      (arrays_fit whose lists all.1 fs few)

-- ** those of a name that stand before the last one, and those that are kept as they are

alone_fits : (sort : Sort) (s : Step) (held : Held) → Stands sort s → Fits (within sort (step_text s)) held.1
    → HeldFit sort (alone (s, held) ∷ [])
alone_fits sort (Step.name name) held is h = ((is, h, tt), tt)
alone_fits sort (Step.array name) held is h = tt
alone_fits sort (Step.part n words) held is h = tt
alone_fits sort (Step.place n) held is h = tt
alone_fits sort (Step.label name label) held is h = tt
alone_fits sort Step.repeated held is h = tt
alone_fits sort Step.other held is h = tt

earlier_fit : (sort : Sort) (ms : List Member) → AllFit sort ms → HeldFit sort (earlier ms)
earlier_fit sort [] h = tt
earlier_fit sort (m ∷ ms) h =
    held_append sort (cond (comes m.0 ms) (alone m ∷ []) []) (earlier ms) (by (comes m.0 ms))
    (earlier_fit sort ms h.2)
  where
    by : (b : Bool) → HeldFit sort (cond b (alone m ∷ []) [])
    by true = alone_fits sort m.0 m.1 h.0 h.1
    by false = tt

earlier_few : (ms : List Member) → length (earlier ms) ≤ length ms
earlier_few [] = omega arith
earlier_few (m ∷ ms) =
    omega (arith, by (comes m.0 ms), earlier_few ms, length-append (cond (comes m.0 ms) (alone m ∷ []) []) (earlier ms))
  where
    by : (b : Bool) → length (cond b (alone m ∷ []) []) ≤ 1
    by true = omega arith
    by false = omega arith

named_few : (r : Reading) (list : Shape) (fs : List Frame) → length (named_in r list fs) ≤ length fs
named_few r list [] = omega arith
named_few r list (f ∷ fs) =
    let known = row_in r.around list (number f) in
    omega (
      arith,
      by (Step.name known.0, held_by r (action_in r.is_state list (number f)) known.1 f.payload)
          (is_unnamed known.1 f.payload),
      named_few r list fs,
      length-append (frame_member r list f) (named_in r list fs),
    )
  where
    by : (m : Member) (b : Bool) → length (cond b [] (m ∷ [])) ≤ 1
    by m true = omega arith
    by m false = omega arith

module _ (r : Reading) (list : Shape) where
  kept_fit : (fs : List Frame) → HeldFit Sort.fields (kept_in r list fs)
  kept_fit fs = each_held Sort.fields (kept_with r list) fs one
    where
      by : (ms : Members) (b c : Bool) → HeldFit Sort.fields (cond b (cond c None (Some (as_object ms)) ∷ []) [])
      by ms false c = tt
      by ms true true = tt
      by ms true false = (fields_fit ms, tt)

      one : (f : Frame) → HeldFit Sort.fields (kept_with r list f)
      one f =
          let known = row_in r.around list (number f) in
          by (frame_members known.0 (kind_shown known.1 f.kind) f.payload) (is_kept known.1 f.payload)
          (is_passed r.is_state list (number f))

  kept_once : (f : Frame) → length (kept_with r list f) ≤ 1
  kept_once f =
      let known = row_in r.around list (number f) in
      by (cond (is_passed r.is_state list (number f)) None
      (Some (as_object (frame_members known.0 (kind_shown known.1 f.kind) f.payload)))) (is_kept known.1 f.payload)
    where
      by : (h : Option Held) (b : Bool) → length (cond b (h ∷ []) []) ≤ 1
      by h true = omega arith
      by h false = omega arith

  others_fit : (fs : List Frame) → length fs < 2 ^ 64 → Fits (Sort.values Sort.fields) (kept_inside r list fs)
  others_fit fs few =
      keyed_fit Sort.fields (λ f. Some (number f)) number_few (kept_with r list) kept_once Keys.Number fs few
      (kept_fit fs)
    where
      number_few : (f : Frame) → number f < 2 ^ 64
      number_few f = omega arith

-- ** lists of attributes

module _ (r : Reading) (fit : InnerFits r.inner) where
  members_fit : (list : Shape) (whose : Whose)
      → ((n : ℕ) → row_fits (Sort.attributes whose) (row_in r.around list n) ≡ true)
      → ListsFit whose (row_in r.around list) (lists_in r.around list) → (fs : List Frame)
      → AreFew fs → AllFit (Sort.attributes whose) (members_in r list fs)
  members_fit list whose rows lists fs few =
      let own = Sort.attributes whose in
      let ms = named_in r list fs in
      let arrays = arrays_in r list fs in
      let all = named_all r fit list whose rows fs few.1 in
      append_fits own (ms ++ arrays ++ list_at Step.repeated (earlier ms)) (others_at Step.other r list fs)
      (append_fits own (ms ++ arrays) (list_at Step.repeated (earlier ms))
      (append_fits own ms arrays all (arrays_fit r fit list whose (lists_in r.around list) lists fs few))
      (unless_fits own Step.repeated _ (places (earlier ms)) (refl, refl)
      (places_fit own (earlier ms) (omega (arith, few.0, earlier_few ms, named_few r list fs))
      (earlier_fit own ms all))))
      (unless_fits own Step.other _ (kept_inside r list fs) (refl, refl) (others_fit r list fs few.0))

  entries_fit : (list : Shape) (whose : Whose)
      → ((n : ℕ) → row_fits (Sort.attributes whose) (row_in r.around list n) ≡ true)
      → ListsFit whose (row_in r.around list) (lists_in r.around list) → (fs : List Frame)
      → AreShort fs → HeldFit (Sort.attributes whose) (entries_in r list fs)
  entries_fit list whose rows lists [] short = tt
  entries_fit list whose rows lists (f ∷ fs) short =
      held_append (Sort.attributes whose) (cond (number f == 1) (Some (entry_of r list f.payload) ∷ []) [])
      (entries_in r list fs) (by (number f == 1)) (entries_fit list whose rows lists fs short.1)
    where
      by : (b : Bool) → HeldFit (Sort.attributes whose) (cond b (Some (entry_of r list f.payload) ∷ []) [])
      by true = (
        left_fits (Sort.attributes whose) (is_some (frames_in (items f.payload)))
            (members_in r list (frames_in (items f.payload)))
            (members_fit list whose rows lists (frames_in (items f.payload)) (few_in f.payload short.0)),
        tt,
      )
      by false = tt

  entry_one : (list : Shape) (f : Frame) → length (entry_with r list f) ≤ 1
  entry_one list f = by (entry_of r list f.payload) (number f == 1)
    where
      by : (held : Held) (b : Bool) → length (cond b (Some held ∷ []) []) ≤ 1
      by held true = omega arith
      by held false = omega arith

  module _ (all : AreAllRows r.around.tables.now) where
    group_fits : (group : Group) (whose : Whose)
        → ((n : ℕ) → row_fits (Sort.attributes whose) (row_in r.around (entry_list group) n) ≡ true)
        → ListsFit whose (row_in r.around (entry_list group)) (lists_in r.around (entry_list group))
        → (fs : List Frame) → AreFew fs
        → Fits (Sort.values (Sort.attributes whose))
        (values_inside false (entries_in r (entry_list group) fs) (entries_inside r group fs))
    group_fits group whose rows lists fs few =
        let list = entry_list group in
        inside_fit (Sort.attributes whose) false (entries_in r list fs) (entries_inside r group fs)
        (listed_fit (Sort.attributes whose) r.around (Shapes.Entries group) (entry_with r list) (entry_one list)
        (key_at None (Shapes.Entries group)) fs few.0 (entries_fit list whose rows lists fs few.1))

    groups_fit : (group : Group) (fs : List Frame) → AreFew fs
        → Fits (Sort.values (Sort.attributes (whose_entry (group_name group))))
        (values_inside false (entries_in r (entry_list group) fs) (entries_inside r group fs))
    groups_fit Groups.AltIfname fs few =
        let list = entry_list Groups.AltIfname in
        group_fits Groups.AltIfname Whose.other (rows_suit r.around all list refl)
        (lists_fit r.around all list Whose.other refl) fs few
    groups_fit Groups.Info fs few =
        let list = entry_list Groups.Info in
        group_fits Groups.Info Whose.function (rows_suit r.around all list refl)
        (lists_fit r.around all list Whose.function refl) fs few
    groups_fit Groups.Port fs few =
        let list = entry_list Groups.Port in
        group_fits Groups.Port Whose.other (rows_suit r.around all list refl)
        (lists_fit r.around all list Whose.other refl) fs few

    group_is : (group : Group) → Stands Sort.entries (entries_step (group_name group))
    group_is Groups.AltIfname = (refl, refl)
    group_is Groups.Info = (refl, refl)
    group_is Groups.Port = (refl, refl)

    name_is : (group : Group) → Stands Sort.listed (values_step (group_name group))
    name_is Groups.AltIfname = (refl, refl)
    name_is Groups.Info = (refl, refl)
    name_is Groups.Port = (refl, refl)

    list_fits : (list : Shape) → is_known list ≡ true → (fs : List Frame) → AreFew fs
        → AllFit (sort_of list) (list_members r list fs)
    list_fits (Shapes.Message family) known fs few =
        members_fit (Shapes.Message family) Whose.other (rows_suit r.around all (Shapes.Message family) known)
        (lists_fit r.around all (Shapes.Message family) Whose.other refl) fs few
    list_fits (Shapes.Own table) known fs few =
        members_fit (Shapes.Own table) (whose_table table) (rows_suit r.around all (Shapes.Own table) known)
        (lists_fit r.around all (Shapes.Own table) (whose_table table) refl) fs few
    list_fits (Shapes.Listed group table) known fs few =
        let list = Shapes.Listed group table in
        let hs = map (λ (m : Member). Some m.1) (named_in r list fs) in (
          name_is group,
          inside_fit Sort.fields (is_own_key None list) hs (places hs) (places_fit Sort.fields hs
              (omega (arith, few.0, named_few r list fs, length-map (named_in r list fs) (λ (m : Member). Some m.1)))
              (values_all r fit list (rows_suit r.around all list known) fs few.1)),
          unless_fits Sort.listed (rest_step (codes "other")) _ (kept_inside r list fs) (refl, refl)
              (others_fit r list fs few.0),
        )
    list_fits (Shapes.Entries group) known fs few = (group_is group, groups_fit group fs few, tt)
    list_fits (Shapes.Of place) known fs few =
        members_fit (Shapes.Of place) (whose_place place) (rows_suit r.around all (Shapes.Of place) known)
        (lists_fit r.around all (Shapes.Of place) (whose_place place) refl) fs few
    list_fits Shapes.ProtoInet6 known fs few =
        members_fit Shapes.ProtoInet6 Whose.other (rows_suit r.around all Shapes.ProtoInet6 known)
        (lists_fit r.around all Shapes.ProtoInet6 Whose.other refl) fs few
    list_fits (Shapes.Info link port) known fs few =
        members_fit (Shapes.Info link port) Whose.other (rows_suit r.around all (Shapes.Info link port) known)
        (lists_fit r.around all (Shapes.Info link port) Whose.other refl) fs few
    list_fits Shapes.Refused known fs few =
        members_fit Shapes.Refused Whose.other (rows_suit r.around all Shapes.Refused known)
        (lists_fit r.around all Shapes.Refused Whose.other refl) fs few

reading_fits : (n : ℕ) (is_state : Bool) (cx : Around) → AreAllRows cx.tables.now
    → InnerFits (reading n is_state cx).inner
reading_fits zero is_state cx all list p known short = tt
reading_fits (suc n) is_state cx all list p known short =
    let r = reading n is_state cx in
    let fs = frames_in (items p) in
    left_fits (sort_of list) (is_some fs) (list_members r list fs)
    (by n (reading_fits n is_state cx all))
  where
    by : (m : ℕ) → InnerFits (reading m is_state cx).inner
        → AllFit (sort_of list) (list_members (reading m is_state cx) list (frames_in (items p)))
    by zero fit = list_fits (reading zero is_state cx) fit all list known (frames_in (items p)) (few_in p short)
    by (suc m) fit = list_fits (reading (suc m) is_state cx) fit all list known (frames_in (items p)) (few_in p short)

-- ** a message

header_fits : (bytes : List ℕ) → AllFit (Sort.attributes Whose.other) (named (header_members bytes))
header_fits bytes = (
  (refl, refl),
  tt,
  ((refl, refl), tt, ((refl, refl), tt, ((refl, refl), tt, ((refl, refl), tt, tt)))),
)

made_fits : (is_state : Bool) (cx : Around) (m : Parts) → IsRead cx m
    → Fits (Sort.attributes Whose.other) (message_made is_state cx m)
unfolding message_members
made_fits is_state cx m read =
    let family = slice_index m.header 0 in
    let fs = frames_in (items m.attributes) in
    let around = with_address_len cx (address_len fs) in
    let others = Sort.attributes Whose.other in
    let attributes = attributes_in is_state cx family m.attributes in
    let refused = refused_in is_state cx m.refused in
    forest_fits others (named (header_members m.header) ++ attributes ++ refused)
    (append_fits others (named (header_members m.header) ++ attributes) refused
    (append_fits others (named (header_members m.header)) attributes (header_fits m.header)
    (members_fit (reading 5 is_state around) (reading_fits 5 is_state around read.0) (Shapes.Message family)
    Whose.other (rows_suit around read.0 (Shapes.Message family) refl)
    (lists_fit around read.0 (Shapes.Message family) Whose.other refl) fs (few_in m.attributes read.1)))
    (unless_fits others refused_step _ ((reading 1 is_state cx).inner Shapes.Refused m.refused) (refl, refl)
    (reading_fits 1 is_state cx read.0 Shapes.Refused m.refused refl read.2)))

pub message_fits : (is_state : Bool) (cx : Around) (m : Parts) → IsRead cx m
    → Fits (Sort.attributes Whose.other) (message_forest is_state cx m)
message_fits is_state cx m read =
    flat_fits (Sort.attributes Whose.other) (message_made is_state cx m) (made_fits is_state cx m read)

-- ** the paths of leaves

module _ {X : Type 0} (path : X → Path) where
  -- each path is of this sort
  abbrev pub AllStand : Sort → List X → Type 0
  AllStand sort [] = Unit {0}
  AllStand sort (x ∷ xs) = StandsIn sort (path x) × AllStand sort xs

  pub append_stand : (sort : Sort) (xs ys : List X) → AllStand sort xs → AllStand sort ys → AllStand sort (xs ++ ys)
  append_stand sort [] ys h k = k
  append_stand sort (x ∷ xs) ys h k = (h.0, append_stand sort xs ys h.1 k)

abbrev pub leaf_path : Leaf → Path
leaf_path l = l.0

under_stand : (sort : Sort) (s : Step) (ls : List Leaf) → Stands sort s
    → AllStand leaf_path (within sort (step_text s)) ls → AllStand leaf_path sort (under s ls)
under_stand sort s [] is h = tt
under_stand sort s (l ∷ ls) is h = ((is, h.0), under_stand sort s ls is h.1)

pub leaves_stand : (sort : Sort) (f : Forest) → Fits sort f → AllStand leaf_path sort (leaves f)
leaves_stand sort Forest.none h = tt
leaves_stand sort Forest.passed h = tt
leaves_stand sort (Forest.vlans runs) h = tt
leaves_stand sort (Forest.texts vs) h = tt
leaves_stand sort (Forest.tree s v i rest) h =
    append_stand leaf_path sort (leaves_at s v i (leaves i)) (leaves rest)
    (at i (leaves i) (leaves_stand (within sort (step_text s)) i h.1)) (leaves_stand sort rest h.2)
  where
    at : (j : Forest) (ls : List Leaf) → AllStand leaf_path (within sort (step_text s)) ls
        → AllStand leaf_path sort (leaves_at s v j ls)
    at Forest.none ls k = ((h.0, tt), tt)
    at Forest.passed ls k = tt
    at (Forest.vlans runs) ls k = tt
    at (Forest.texts vs) ls k = ((h.0, tt), tt)
    at (Forest.tree a b c d) ls k = under_stand sort s ls h.0 k
