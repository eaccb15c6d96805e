-- Forests with each VLAN as a member: the members of a message stand apart there too.
use Rattle.std.proofs.Common.{◌≡◌, ℕ, zero, suc, ◌+◌, ◌-◌, ◌≤◌, Bool, true, false, List, [], ◌∷◌, ◌++◌, map}
use Rattle.std.proofs.Common.{refl, sym, ap, ◌∙◌, arith, eqb-true, leb-true}
use Rattle.std.proofs.lemmas.Bool.{and_parts}
use Rattle.std.specs.Prelude.{Option, Some, None, codes, cond, nat_le, nat_lt, option_map, slice_index, ◌==◌, ◌&&◌}
use Rattle.std.specs.List.{flat_map, range_with_len}
use Rattle.json.specs.Token.{Token}
use Rattle.nla_wire.specs.Frames.{Frame, number}
use Rattle.nla_wire.specs.Items.{items}
use Rattle.link_info.specs.Meanings.{Meaning, Raw, Present, Number, Signed, Words, Hardware, Four, Six}
use Rattle.link_info.specs.Meanings.{Members as Fields, Elements, Listed, Nested, read_as}
use Rattle.link_info.specs.Styles.{plain_size}
use Rattle.link_info.specs.Tables.{frames_in}
use Rattle.link_info.specs.declared.place.Place.TheVariants as Places
use Rattle.link_state.specs.Table.{Action}
use Rattle.link_vlans.specs.Pieces.{AreOnce, said_at, said_of, vlans_of}
use Rattle.link_vlans.specs.Runs.{are_apart, is_run, runs_in}
use Rattle.link_vlans.specs.declared.run.Run.{Run}
use Rattle.link_vlans.specs.declared.run.Said.{Said}
use Rattle.link_vlans.proofs.Bounds.{AreAbove, runs_above}
use Rattle.link_vlans.proofs.Say.{found, once}
use Rattle.shown.specs.Drafts.{Members}
use Rattle.frame_shown.specs.Frames.{levels}
use Rattle.frame_shown.specs.Items.{Lists}
use Rattle.frame_shown.specs.Kept.{frame_members}
use Rattle.frame_shown.specs.Messages.{address_len, header_members, with_address_len}
use Rattle.frame_shown.specs.Tables.{Known, entry_list, is_kept, kind_shown, row_in, lists_in, is_each}
use Rattle.frame_shown.specs.Values.{behind_settings, counter_names, counter_width, counters_shown, event_in}
use Rattle.frame_shown.specs.Values.{fields_in, fields_shown, hexadecimal, info_of, ipv6_named, record_shown}
use Rattle.frame_shown.specs.Values.{setting_names, settings_shown}
use Rattle.frame_shown.specs.declared.form.Around.{Around}
use Rattle.frame_shown.specs.declared.form.Form.{Form}
use Rattle.frame_shown.specs.declared.form.Form.TheVariants as Forms
use Rattle.frame_shown.specs.declared.form.List.{List as Shape}
use Rattle.frame_shown.specs.declared.form.List.TheVariants as Shapes
use Rattle.frame_shown.specs.declared.form.Order.{Order}
use Rattle.frame_shown.specs.declared.form.Order.TheVariants as Orders
use Rattle.frame_shown.specs.declared.form.Way.{Way}
use Rattle.frame_shown.specs.declared.form.Way.TheVariants as Ways
use Rattle.frame_diff.specs.Counters.{action_in, fields_left, is_clear, is_passed}
use Rattle.frame_diff.specs.Differences.{inside_in, leaf_in}
use Rattle.frame_diff.specs.Forests.{AreApart, Forest, Held, Member, Step, comes, find, forest, is_same_label}
use Rattle.frame_diff.specs.Forests.{is_step, is_text, left_of, rest_step, runs_inside}
use Rattle.frame_diff.specs.Keys.{key_at, number_in}
use Rattle.frame_diff.specs.Labels.{label_step, labelled, labels_of}
use Rattle.frame_diff.specs.Members.{Inner, Parts, Reading, alone, are_plain, array_at, arrays_in, arrays_of}
use Rattle.frame_diff.specs.Members.{as_object, attributes_in, earlier, entries_in, entries_inside, entry_of}
use Rattle.frame_diff.specs.Members.{fields, fields_kept, form_inside, frame_member, held_by, held_inside, inside_of}
use Rattle.frame_diff.specs.Members.{inside_with, ipv6_inside, is_some, is_unnamed, kept_by, kept_in, kept_inside}
use Rattle.frame_diff.specs.Members.{kept_with, list_at, list_by, list_members, meaning_inside, members_in}
use Rattle.frame_diff.specs.Members.{message_forest, message_made, message_members, named, named_by, named_in}
use Rattle.frame_diff.specs.Members.{numbers_by, others_at, placed, placed_one, places, reading, refused_in}
use Rattle.frame_diff.specs.Members.{refused_step, runs_by, runs_or, unless_none, value_with, values_inside}
use Rattle.frame_diff.specs.Members.{entry_with, unless_empty, values_with, way_inside}
use Rattle.frame_diff.specs.Vlans.{flat, vlan_fields, vlan_inside, vlan_label, vlan_shown, vlan_step, vlan_trees}
use Rattle.frame_diff.specs.declared.keys.Key.{Key}
use Rattle.frame_diff.specs.declared.keys.Key.TheVariants as Keys
use Rattle.frame_diff.specs.declared.labels.Label.{Label}
use Rattle.frame_diff.proofs.Apart.{fields_apart, made_apart}
use Rattle.frame_diff.proofs.Steps.{text_is, text_same}
use Rattle.frame_diff.specs.Members.{flat_inside, is_own_key}

-- ** no step of a member is that of a VLAN, and no id of a tunnel is cut off below

abbrev pub is_vid : Step → Bool
is_vid (Step.label a l) = is_text (codes "vid") a
is_vid (Step.name a) = false
is_vid (Step.array a) = false
is_vid (Step.part sort a) = false
is_vid (Step.place n) = false
is_vid Step.repeated = false
is_vid Step.other = false

abbrev pub AreMade : Forest → Type 0
AreMade Forest.none = Unit {0}
AreMade Forest.passed = Unit {0}
AreMade (Forest.vlans runs) = AreAbove runs
AreMade (Forest.texts vs) = Unit {0}
AreMade (Forest.tree s v i rest) = (is_vid s ≡ false) × AreMade i × AreMade rest

abbrev AllMade : List Member → Type 0
AllMade [] = Unit {0}
AllMade (m ∷ ms) = (is_vid m.0 ≡ false) × AreMade m.1.1 × AllMade ms

forest_made : (ms : List Member) → AllMade ms → AreMade (forest ms)
forest_made [] h = tt
forest_made (m ∷ ms) h = by (comes m.0 ms) (forest_made ms h.2)
  where
    by : (c : Bool) → AreMade (forest ms)
        → AreMade (cond c (forest ms) (Forest.tree m.0 m.1.0 m.1.1 (forest ms)))
    by true later = later
    by false later = (h.0, h.1, later)

append_made : (xs ys : List Member) → AllMade xs → AllMade ys → AllMade (xs ++ ys)
append_made [] ys h k = k
append_made (x ∷ xs) ys h k = (h.0, h.1, append_made xs ys h.2 k)

each_made : {X : Type 0} (F : X → List Member) (xs : List X) → ((x : X) → AllMade (F x)) → AllMade (flat_map F xs)
each_made F [] h = tt
each_made F (x ∷ xs) h = append_made (F x) (flat_map F xs) (h x) (each_made F xs h)

named_made : (ms : Members) → AllMade (named ms)
named_made [] = tt
named_made (m ∷ ms) = (refl, tt, named_made ms)

fields_made : (ms : Members) → AreMade (fields ms)
fields_made ms = forest_made (named ms) (named_made ms)

left_made : (is_any : Bool) (ms : List Member) → AllMade ms → AreMade (left_of is_any ms)
left_made true [] h = tt
left_made false [] h = tt
left_made is_any (m ∷ ms) h = forest_made (m ∷ ms) h

kept_fields_made : (action : Action) (sizes : List ℕ) (ms : Members) → AreMade (fields_kept action sizes ms)
kept_fields_made action sizes ms =
    let left = fields_left action 0 sizes ms in left_made (is_some ms) (named left) (named_made left)

-- ** those of a list of values

abbrev HeldMade : List (Option Held) → Type 0
HeldMade [] = Unit {0}
HeldMade (None ∷ hs) = HeldMade hs
HeldMade (Some held ∷ hs) = AreMade held.1 × HeldMade hs

held_append : (xs ys : List (Option Held)) → HeldMade xs → HeldMade ys → HeldMade (xs ++ ys)
held_append [] ys h k = k
held_append (None ∷ xs) ys h k = held_append xs ys h k
held_append (Some held ∷ xs) ys h k = (h.0, held_append xs ys h.1 k)

each_held : {X : Type 0} (F : X → List (Option Held)) (xs : List X) → ((x : X) → HeldMade (F x))
    → HeldMade (flat_map F xs)
each_held F [] h = tt
each_held F (x ∷ xs) h = held_append (F x) (flat_map F xs) (h x) (each_held F xs h)

one_made : (n : ℕ) (held : Held) → AreMade held.1 → AllMade (placed_one n (Some held))
one_made n held h = (refl, h, tt)

placed_made : (n : ℕ) (hs : List (Option Held)) → HeldMade hs → AllMade (placed n hs)
placed_made n [] h = tt
placed_made n (None ∷ hs) h = placed_made (n + 1) hs h
placed_made n (Some held ∷ hs) h =
    append_made (placed_one n (Some held)) (placed (n + 1) hs) (one_made n held h.0) (placed_made (n + 1) hs h.1)

places_made : (hs : List (Option Held)) → HeldMade hs → AreMade (places hs)
places_made hs h = forest_made (placed 0 hs) (placed_made 0 hs h)

unless_made : (s : Step) (value : List Token) (f : Forest) → is_vid s ≡ false → AreMade f
    → AllMade (unless_none s value f)
unless_made s value Forest.none plain h = tt
unless_made s value Forest.passed plain h = tt
unless_made s value (Forest.vlans runs) plain h = tt
unless_made s value (Forest.texts vs) plain h = tt
unless_made s value (Forest.tree a b c d) plain h = (plain, h, tt)

key_made : (key : Key) (l : Label) → is_vid (label_step key l) ≡ false
key_made Keys.Msti l = refl
key_made Keys.From l = refl
key_made Keys.Vf l = refl
key_made Keys.Number l = refl

labelled_made : (key : Key) (ls : List Label) (hs : List (Option Held)) → HeldMade hs
    → AllMade (labelled key ls hs)
labelled_made key [] hs h = tt
labelled_made key (l ∷ ls) [] h = tt
labelled_made key (l ∷ ls) (None ∷ hs) h = labelled_made key ls hs h
labelled_made key (l ∷ ls) (Some held ∷ hs) h = (key_made key l, h.0, labelled_made key ls hs h.1)

each_made_inside : (key : Option Key) (ns : List (Option ℕ)) (hs : List (Option Held)) → HeldMade hs
    → AreMade (inside_of key ns hs)
each_made_inside None ns hs h = places_made hs h
each_made_inside (Some key) ns hs h =
    forest_made (labelled key (labels_of ns) hs) (labelled_made key (labels_of ns) hs h)

inside_made : (own : Bool) (hs : List (Option Held)) (inside : Forest) → AreMade inside
    → AreMade (values_inside own hs inside)
inside_made own hs inside h = by (are_plain hs) own
  where
    by : (b own : Bool) → AreMade (cond b (flat_inside own hs) inside)
    by true true = tt
    by true false = tt
    by false own = h

list_made : (s : Step) (hs : List (Option Held)) (inside : Forest) → is_vid s ≡ false → AreMade inside
    → AllMade (list_by s hs inside)
list_made s hs inside plain h = unless_made s _ inside plain h

-- ** those of a payload

abbrev InnerMade : Inner → Type 0
InnerMade inner = (list : Shape) (p : List ℕ) → AreMade (inner list p)

meaning_made : (inner : Inner) (action : Action) (meaning : Meaning) → InnerMade inner
    → AreMade (meaning_inside inner action meaning)
meaning_made inner action (Fields members p) h =
    kept_fields_made action (map (λ m. plain_size m.1) members) (record_shown members p)
meaning_made inner action (Elements plain p) h = tt
meaning_made inner action (Listed plain p) h = tt
meaning_made inner action (Nested place p) h = h (Shapes.Of place) p
meaning_made inner action (Raw p) h = tt
meaning_made inner action Present h = tt
meaning_made inner action (Number n) h = tt
meaning_made inner action (Signed z) h = tt
meaning_made inner action (Words s) h = tt
meaning_made inner action (Hardware octets) h = tt
meaning_made inner action (Four address) h = tt
meaning_made inner action (Six address) h = tt

ipv6_made : (order : Order) (p : List ℕ) → AreMade (ipv6_inside order p)
ipv6_made Orders.Unknown p = tt
ipv6_made Orders.Before p = fields_made (ipv6_named false p)
ipv6_made Orders.Since p = fields_made (ipv6_named true p)

form_made : (inner : Inner) (cx : Around) (action : Action) (form : Form) (p : List ℕ) → InnerMade inner
    → AreMade (form_inside inner cx action form p)
form_made inner cx action (Forms.Counters words) p h =
    fields_made (counters_shown (counter_names words) (counter_width words) p 0)
form_made inner cx action Forms.Ipv6Counters p h = ipv6_made cx.order p
form_made inner cx action (Forms.Settings set) p h =
    kept_fields_made action (map (λ name. 4) (setting_names set))
    (settings_shown (setting_names set) p 0 ++ behind_settings set p)
form_made inner cx action (Forms.Record parts) p h = fields_made (fields_shown cx (fields_in parts) p)
form_made inner cx action Forms.Wireless p h = fields_made (((event_in p).0, hexadecimal (event_in p).1) ∷ [])
form_made inner cx action (Forms.List list) p h = h list p
form_made inner cx action Forms.Info p h = h (info_of p) p
form_made inner cx action Forms.Kept p h = tt
form_made inner cx action Forms.Unflagged p h = tt
form_made inner cx action (Forms.Number size) p h = tt
form_made inner cx action Forms.Signed p h = tt
form_made inner cx action Forms.Text p h = tt
form_made inner cx action (Forms.Exact size) p h = tt
form_made inner cx action Forms.Truth p h = tt
form_made inner cx action Forms.Id p h = tt
form_made inner cx action Forms.Address p h = tt
form_made inner cx action (Forms.Choice choice) p h = tt
form_made inner cx action (Forms.Flags bits) p h = tt
form_made inner cx action Forms.Ipv6 p h = tt
form_made inner cx action (Forms.Field field) p h = tt

way_made : (inner : Inner) (cx : Around) (action : Action) (way : Way) (p : List ℕ) → InnerMade inner
    → AreMade (way_inside inner cx action way p)
way_made inner cx action (Ways.Own form) p h = form_made inner cx action form p h
way_made inner cx action (Ways.By style) p h = meaning_made inner action (read_as style p) h

-- ** those of attributes

held_made : (inner : Inner) (cx : Around) (action : Action) (way : Way) (p : List ℕ) → InnerMade inner
    → AreMade (held_inside inner cx action way p)
held_made inner cx action way p h = by (is_clear action)
  where
    by : (b : Bool) → AreMade (cond b Forest.passed (way_inside inner cx action way p))
    by true = tt
    by false = way_made inner cx action way p h

named_by_made : (r : Reading) (action : Action) (row : Known) (f : Frame) → InnerMade r.inner
    → AllMade (named_by r action row f)
named_by_made r action row f h = by (is_unnamed row.1 f.payload)
  where
    by : (b : Bool) → AllMade (cond b [] ((Step.name row.0, held_by r action row.1 f.payload) ∷ []))
    by true = tt
    by false = (refl, held_made r.inner r.around action row.1 f.payload h, tt)

named_in_made : (r : Reading) (list : Shape) (fs : List Frame) → InnerMade r.inner → AllMade (named_in r list fs)
named_in_made r list fs h = each_made (frame_member r list) fs
    (λ f. named_by_made r (action_in r.is_state list (number f)) (row_in r.around list (number f)) f h)

alone_made : (s : Step) (held : Held) → AreMade held.1 → HeldMade (alone (s, held) ∷ [])
alone_made (Step.name name) held h = ((refl, h, tt), tt)
alone_made (Step.array name) held h = tt
alone_made (Step.part sort text) held h = tt
alone_made (Step.place n) held h = tt
alone_made (Step.label name label) held h = tt
alone_made Step.repeated held h = tt
alone_made Step.other held h = tt

earlier_made : (ms : List Member) → AllMade ms → HeldMade (earlier ms)
earlier_made [] h = tt
earlier_made (m ∷ ms) h =
    held_append (cond (comes m.0 ms) (alone m ∷ []) []) (earlier ms) (by (comes m.0 ms)) (earlier_made ms h.2)
  where
    by : (b : Bool) → HeldMade (cond b (alone m ∷ []) [])
    by true = alone_made m.0 m.1 h.1
    by false = tt

kept_by_made : (passed : Bool) (cx : Around) (row : Known) (f : Frame) → HeldMade (kept_by passed cx row f)
kept_by_made passed cx row f = by (is_kept row.1 f.payload) passed
  where
    ms : Members
    ms = frame_members row.0 (kind_shown row.1 f.kind) f.payload

    by : (b c : Bool) → HeldMade (cond b (cond c None (Some (as_object ms)) ∷ []) [])
    by false c = tt
    by true true = tt
    by true false = (fields_made ms, tt)

kept_in_made : (r : Reading) (list : Shape) (fs : List Frame) → HeldMade (kept_in r list fs)
kept_in_made r list fs =
    each_held (kept_with r list) fs
    (λ f. kept_by_made (is_passed r.is_state list (number f)) r.around (row_in r.around list (number f)) f)

kept_inside_made : (r : Reading) (list : Shape) (fs : List Frame) → AreMade (kept_inside r list fs)
kept_inside_made r list fs =
    each_made_inside (Some Keys.Number) (numbers_by (λ f. Some (number f)) (kept_with r list) fs) (kept_in r list fs)
    (kept_in_made r list fs)

value_with_made : (r : Reading) (list : Shape) (n : ℕ) → InnerMade r.inner → (f : Frame)
    → HeldMade (value_with r list n f)
value_with_made r list n h f = by (number f == n) (is_each row.1)
  where
    row : Known
    row = row_in r.around list (number f)

    action : Action
    action = action_in r.is_state list (number f)

    by : (b c : Bool) → HeldMade (cond b (cond c (Some (held_by r action row.1 f.payload) ∷ []) []) [])
    by true true = (held_made r.inner r.around action row.1 f.payload h, tt)
    by true false = tt
    by false c = tt

array_made : (name : List ℕ) (own : Bool) (hs : List (Option Held)) (inside : Forest) → AreMade inside
    → AllMade (array_at name own hs inside)
array_made name own [] inside h = tt
array_made name own (x ∷ hs) inside h = (refl, inside_made own (x ∷ hs) inside h, tt)

some_above : (found : Option (List Run)) → ((rs : List Run) → found ≡ Some rs → AreAbove rs) → (rs : List Run)
    → unless_empty found ≡ Some rs → AreAbove rs
some_above None all rs is = absurd cc
some_above (Some []) all rs is = absurd cc
some_above (Some (r ∷ rs)) all ss is = all ss is

picked_above : (picks : Option ℕ) (list : Shape) (fs : List Frame) (rs : List Run)
    → runs_by picks list fs ≡ Some rs → AreAbove rs
picked_above (Some n) (Shapes.Of Places.BridgeSpec) fs rs is =
    some_above (runs_in n fs) (runs_above n fs) rs is
picked_above _ _ fs rs is = absurd cc

runs_or_made : (runs : Option (List Run)) (inside : Forest)
    → ((rs : List Run) → runs ≡ Some rs → AreAbove rs) → AreMade inside → AreMade (runs_or runs inside)
runs_or_made None inside above h = h
runs_or_made (Some rs) inside above h = above rs refl

inside_with_made : (r : Reading) (list : Shape) (n : ℕ) (fs : List Frame) → InnerMade r.inner
    → AreMade (inside_with r list n fs)
inside_with_made r list n fs h =
    let key = key_at (Some n) list in
    runs_or_made (runs_by (Some n) list fs)
    (inside_of key (numbers_by (number_in r.around key list) (value_with r list n) fs) (values_with r list n fs))
    (picked_above (Some n) list fs)
    (each_made_inside key (numbers_by (number_in r.around key list) (value_with r list n) fs) (values_with r list n fs)
    (each_held (value_with r list n) fs (value_with_made r list n h)))

arrays_made : (r : Reading) (list : Shape) (lists : Lists) (fs : List Frame) → InnerMade r.inner
    → AllMade (arrays_of r list lists fs)
arrays_made r list lists fs h =
    each_made
    (λ l. array_at l.1 (is_own_key (Some l.0) list) (values_with r list l.0 fs) (inside_with r list l.0 fs)) lists
    (λ l. array_made l.1 (is_own_key (Some l.0) list) (values_with r list l.0 fs) (inside_with r list l.0 fs)
    (inside_with_made r list l.0 fs h))

members_made : (r : Reading) (list : Shape) (fs : List Frame) → InnerMade r.inner
    → AllMade (members_in r list fs)
members_made r list fs h =
    let ms = named_in r list fs in
    let lists = arrays_in r list fs in
    append_made (ms ++ lists ++ list_at Step.repeated (earlier ms)) (others_at Step.other r list fs)
    (append_made (ms ++ lists) (list_at Step.repeated (earlier ms))
    (append_made ms lists (named_in_made r list fs h) (arrays_made r list (lists_in r.around list) fs h))
    (list_made Step.repeated (earlier ms) (places (earlier ms)) refl
    (places_made (earlier ms) (earlier_made ms (named_in_made r list fs h)))))
    (list_made Step.other (kept_in r list fs) (kept_inside r list fs) refl (kept_inside_made r list fs))

values_made : (ms : List Member) → AllMade ms → HeldMade (map (λ (m : Member). Some m.1) ms)
values_made [] h = tt
values_made (m ∷ ms) h = (h.1, values_made ms h.2)

entries_made : (r : Reading) (list : Shape) (fs : List Frame) → InnerMade r.inner
    → HeldMade (entries_in r list fs)
entries_made r list fs h = each_held (entry_with r list) fs (λ f. by f (number f == 1))
  where
    by : (f : Frame) (b : Bool) → HeldMade (cond b (Some (entry_of r list f.payload) ∷ []) [])
    by f true = (
      left_made (is_some (frames_in (items f.payload))) (members_in r list (frames_in (items f.payload)))
          (members_made r list (frames_in (items f.payload)) h),
      tt,
    )
    by f false = tt

list_members_made : (r : Reading) (list : Shape) (fs : List Frame) → InnerMade r.inner
    → AllMade (list_members r list fs)
list_members_made r (Shapes.Listed group table) fs h = (
  refl,
  inside_made (is_own_key None (Shapes.Listed group table))
      (map (λ (m : Member). Some m.1) (named_in r (Shapes.Listed group table) fs))
      (places (map (λ (m : Member). Some m.1) (named_in r (Shapes.Listed group table) fs)))
      (places_made (map (λ (m : Member). Some m.1) (named_in r (Shapes.Listed group table) fs))
      (values_made (named_in r (Shapes.Listed group table) fs) (named_in_made r (Shapes.Listed group table) fs h))),
  list_made (rest_step (codes "other")) (kept_in r (Shapes.Listed group table) fs)
      (kept_inside r (Shapes.Listed group table) fs) refl (kept_inside_made r (Shapes.Listed group table) fs),
)
list_members_made r (Shapes.Entries group) fs h =
    let list = Shapes.Entries group in
    let key = key_at None list in
    let hs = entries_in r (entry_list group) fs in (
      refl,
      inside_made false hs (entries_inside r group fs)
          (each_made_inside key (numbers_by (number_in r.around key list) (entry_with r (entry_list group)) fs) hs
          (entries_made r (entry_list group) fs h)),
      tt,
    )
list_members_made r (Shapes.Message family) fs h = members_made r (Shapes.Message family) fs h
list_members_made r (Shapes.Own table) fs h = members_made r (Shapes.Own table) fs h
list_members_made r (Shapes.Of place) fs h = members_made r (Shapes.Of place) fs h
list_members_made r Shapes.ProtoInet6 fs h = members_made r Shapes.ProtoInet6 fs h
list_members_made r Shapes.Refused fs h = members_made r Shapes.Refused fs h
list_members_made r (Shapes.Info link port) fs h = members_made r (Shapes.Info link port) fs h

reading_made : (n : ℕ) (is_state : Bool) (cx : Around) → InnerMade (reading n is_state cx).inner
reading_made zero is_state cx list p = tt
reading_made (suc n) is_state cx list p =
    left_made (is_some (frames_in (items p))) (list_members (reading n is_state cx) list (frames_in (items p)))
    (list_members_made (reading n is_state cx) list (frames_in (items p)) (reading_made n is_state cx))

-- ** those of a message

refused_made : (is_state : Bool) (cx : Around) (bytes : List ℕ) → AllMade (refused_in is_state cx bytes)
refused_made is_state cx bytes =
    unless_made refused_step (levels 1 cx Shapes.Refused bytes) ((reading 1 is_state cx).inner Shapes.Refused bytes)
    refl (reading_made 1 is_state cx Shapes.Refused bytes)

pub made : (is_state : Bool) (cx : Around) (m : Parts) → AreMade (message_made is_state cx m)
unfolding message_members
made is_state cx m =
    let family = slice_index m.header 0 in
    let fs = frames_in (items m.attributes) in
    let around = with_address_len cx (address_len fs) in
    let attributes = attributes_in is_state cx family m.attributes in
    let refused = refused_in is_state cx m.refused in
    forest_made (named (header_members m.header) ++ attributes ++ refused)
    (append_made (named (header_members m.header)) (attributes ++ refused)
    (named_made (header_members m.header))
    (append_made attributes refused
    (members_made (reading 5 is_state around) (Shapes.Message family) fs (reading_made 5 is_state around))
    (refused_made is_state cx m.refused)))

-- ** the steps of VLANs

vlan_other : (n : ℕ) (s : Step) → is_vid s ≡ false → is_step (vlan_step n) s ≡ false
vlan_other n (Step.label a l) plain = ap (λ b. b && is_same_label (vlan_label n) l) plain
vlan_other n (Step.name a) plain = refl
vlan_other n (Step.array a) plain = refl
vlan_other n (Step.part sort a) plain = refl
vlan_other n (Step.place m) plain = refl
vlan_other n Step.repeated plain = refl
vlan_other n Step.other plain = refl

other_vlan : (s : Step) (n : ℕ) → is_vid s ≡ false → is_step s (vlan_step n) ≡ false
other_vlan (Step.label a l) n plain = by (is_text a (codes "vid")) refl
  where
    by : (b : Bool) → is_text a (codes "vid") ≡ b → (b && is_same_label l (vlan_label n)) ≡ false
    by true is =
        let clash : true ≡ false =
        sym (text_is (codes "vid")) ∙ ap (is_text (codes "vid")) (sym (text_same a (codes "vid") is)) ∙ plain in
        absurd cc
    by false is = refl
other_vlan (Step.name a) n plain = refl
other_vlan (Step.array a) n plain = refl
other_vlan (Step.part sort a) n plain = refl
other_vlan (Step.place m) n plain = refl
other_vlan Step.repeated n plain = refl
other_vlan Step.other n plain = refl

-- ** what stands at a step

abbrev pub held_flat : Held → Held
held_flat held = (held.0, flat held.1)

trees_lack : (s : Step) (vs : List (ℕ × Said)) → is_vid s ≡ false → find s (vlan_trees vs) ≡ None
trees_lack s [] plain = refl
trees_lack s (v ∷ vs) plain =
    ap (λ b. cond b (Some (vlan_shown v.0 v.1, vlan_inside v.0 v.1)) (find s (vlan_trees vs))) (vlan_other v.0 s plain)
    ∙ trees_lack s vs plain

pub find_flat : (s : Step) (f : Forest) → is_vid s ≡ false → find s (flat f) ≡ option_map held_flat (find s f)
find_flat s Forest.none plain = refl
find_flat s Forest.passed plain = refl
find_flat s (Forest.vlans []) plain = refl
find_flat s (Forest.vlans (r ∷ rs)) plain = trees_lack s (vlans_of (r ∷ rs)) plain
find_flat s (Forest.texts vs) plain = refl
find_flat s (Forest.tree t v i rest) plain = by (is_step t s) (find_flat s rest plain)
  where
    by : (b : Bool) → find s (flat rest) ≡ option_map held_flat (find s rest)
        → cond b (Some (v, flat i)) (find s (flat rest)) ≡ option_map held_flat (cond b (Some (v, i)) (find s rest))
    by true later = refl
    by false later = later

-- a VLAN, as it is held
abbrev pub vlan_held : ℕ → Said → Held
vlan_held n s = (vlan_shown n s, vlan_inside n s)

trees_have : (n : ℕ) (vs : List (ℕ × Said))
    → find (vlan_step n) (vlan_trees vs) ≡ option_map (vlan_held n) (said_at vs n)
trees_have n [] = refl
trees_have n (v ∷ vs) = by (v.0 == n) refl (trees_have n vs)
  where
    by : (b : Bool) → (v.0 == n) ≡ b → find (vlan_step n) (vlan_trees vs) ≡ option_map (vlan_held n) (said_at vs n)
        → cond (b && true) (Some (vlan_held v.0 v.1)) (find (vlan_step n) (vlan_trees vs))
        ≡ option_map (vlan_held n) (cond b (Some v.1) (said_at vs n))
    by true is later = ap (λ m. Some (vlan_held m v.1)) (eqb-true v.0 n is)
    by false is later = later

pub find_vlan : (n : ℕ) (f : Forest) → AreApart f → AreMade f
    → find (vlan_step n) (flat f) ≡ option_map (vlan_held n) (said_of (runs_inside f) n)
find_vlan n Forest.none apart made = refl
find_vlan n Forest.passed apart made = refl
find_vlan n (Forest.vlans []) apart made = refl
find_vlan n (Forest.texts vs) apart made = refl
find_vlan n (Forest.vlans (r ∷ rs)) apart made =
    trees_have n (vlans_of (r ∷ rs)) ∙ ap (option_map (vlan_held n)) (found (r ∷ rs) n)
find_vlan n (Forest.tree s v i rest) apart made =
    ap (λ b. cond b (Some (v, flat i)) (find (vlan_step n) (flat rest))) (other_vlan s n made.0)
    ∙ find_vlan n rest apart.2 made.2
    ∙ ap (λ rs. option_map (vlan_held n) (said_of rs n)) apart.3

pub found_made : (s : Step) (f : Forest) → AreMade f → AreMade (inside_in (find s f))
found_made s Forest.none made = tt
found_made s Forest.passed made = tt
found_made s (Forest.vlans runs) made = tt
found_made s (Forest.texts vs) made = tt
found_made s (Forest.tree t v i rest) made = by (is_step t s) (found_made s rest made.2)
  where
    by : (b : Bool) → AreMade (inside_in (find s rest))
        → AreMade (inside_in (cond b (Some (v, i)) (find s rest)))
    by true later = made.1
    by false later = later

-- ** they stand apart

trees_runs : (vs : List (ℕ × Said)) → runs_inside (vlan_trees vs) ≡ []
trees_runs [] = refl
trees_runs (v ∷ vs) = refl

flat_runs : (f : Forest) → runs_inside (flat f) ≡ []
flat_runs Forest.none = refl
flat_runs Forest.passed = refl
flat_runs (Forest.vlans []) = refl
flat_runs (Forest.texts vs) = refl
flat_runs (Forest.vlans (r ∷ rs)) = trees_runs (vlans_of (r ∷ rs))
flat_runs (Forest.tree s v i rest) = refl

pub inside_vlan_apart : (n : ℕ) (s : Said) → AreApart (vlan_inside n s)
inside_vlan_apart n s = fields_apart (vlan_fields n s)

trees_apart : (vs : List (ℕ × Said)) → AreOnce vs → AreApart (vlan_trees vs)
trees_apart [] h = tt
trees_apart (v ∷ vs) h = (
  trees_have v.0 vs ∙ ap (option_map (vlan_held v.0)) h.0,
  inside_vlan_apart v.0 v.1,
  trees_apart vs h.1,
  trees_runs vs,
)

pub flat_apart : (f : Forest) → AreApart f → AreMade f → AreApart (flat f)
flat_apart Forest.none apart made = tt
flat_apart Forest.passed apart made = tt
flat_apart (Forest.vlans []) apart made = tt
flat_apart (Forest.texts vs) apart made = tt
flat_apart (Forest.vlans (r ∷ rs)) apart made = trees_apart (vlans_of (r ∷ rs)) (once (r ∷ rs) apart)
flat_apart (Forest.tree s v i rest) apart made = (
  find_flat s rest made.0 ∙ ap (option_map held_flat) apart.0,
  flat_apart i apart.1 made.1,
  flat_apart rest apart.2 made.2,
  flat_runs rest,
)

pub message_apart : (is_state : Bool) (cx : Around) (m : Parts) → AreApart (message_forest is_state cx m)
message_apart is_state cx m =
    flat_apart (message_made is_state cx m) (made_apart is_state cx m) (made is_state cx m)

-- ** runs have VLANs

-- it is not empty
abbrev pub HasMembers : Forest → Type 0
HasMembers Forest.none = ⊥
HasMembers Forest.passed = ⊥
HasMembers (Forest.vlans runs) = ⊥
HasMembers (Forest.texts vs) = ⊥
HasMembers (Forest.tree s v i rest) = Unit {0}

pub runs_have : (r : Run) (rs : List Run) → are_apart None (r ∷ rs) ≡ true → HasMembers (vlan_trees (vlans_of (r ∷ rs)))
runs_have r rs apart =
    let ordered : r.first ≤ r.last =
    leb-true r.first r.last (and_parts (nat_le r.first r.last) (nat_lt r.last 65536)
    (and_parts (is_run r) (are_apart (Some r.last) rs) apart).0).0 in
    by (suc r.last - r.first) (r.last - r.first) (omega arith)
  where
    by : (n k : ℕ) → n ≡ suc k → HasMembers (vlan_trees (
        map (λ vid. (vid, r.said)) (range_with_len r.first n) ++ vlans_of rs))
    by zero k is = absurd cc
    by (suc n) k is = tt

-- ** members that are shown

pub leaf_flat : (beside : Option Held) → AreApart (inside_in beside)
    → leaf_in beside ≡ leaf_in (option_map held_flat beside)
leaf_flat None apart = refl
leaf_flat (Some (v, Forest.none)) apart = refl
leaf_flat (Some (v, Forest.passed)) apart = refl
leaf_flat (Some (v, Forest.vlans [])) apart = refl
leaf_flat (Some (v, Forest.texts vs)) apart = refl
leaf_flat (Some (v, Forest.vlans (r ∷ rs))) apart = by (vlan_trees (vlans_of (r ∷ rs))) (runs_have r rs apart)
  where
    by : (f : Forest) → HasMembers f → None ≡ leaf_in (Some (v, f))
    by Forest.none h = absurd h
    by Forest.passed h = absurd h
    by (Forest.vlans runs) h = absurd h
    by (Forest.texts vs) h = absurd h
    by (Forest.tree a b c d) h = refl
leaf_flat (Some (v, Forest.tree a b c d)) apart = refl
