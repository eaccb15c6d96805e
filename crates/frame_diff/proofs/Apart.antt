-- The members of a message stand apart: no two beside each other have one step.
use Rattle.std.proofs.Common.{◌≡◌, ℕ, zero, suc, ◌+◌, Bool, true, false, List, [], ◌∷◌, ◌++◌, map, refl, ap, ◌∙◌}
use Rattle.std.specs.Prelude.{Option, Some, None, codes, cond, slice_index, ◌==◌}
use Rattle.std.specs.List.{flat_map}
use Rattle.json.specs.Token.{Token}
use Rattle.nla_wire.specs.Frames.{Frame, number}
use Rattle.nla_wire.specs.Items.{items}
use Rattle.link_info.specs.Meanings.{Meaning, Raw, Present, Number, Signed, Words, Hardware, Four, Six}
use Rattle.link_info.specs.Meanings.{Members as Fields, Elements, Listed, Nested, read_as}
use Rattle.link_info.specs.Styles.{plain_size}
use Rattle.link_info.specs.Tables.{frames_in}
use Rattle.link_state.specs.Table.{Action}
use Rattle.shown.specs.Drafts.{Members}
use Rattle.frame_shown.specs.Frames.{levels}
use Rattle.frame_shown.specs.Kept.{frame_members}
use Rattle.frame_shown.specs.Messages.{address_len, header_members, with_address_len}
use Rattle.frame_shown.specs.Tables.{Known, entry_list, is_kept, kind_shown, row_in, lists_in, is_each}
use Rattle.frame_shown.specs.Values.{behind_settings, counter_names, counter_width, counters_shown, event_in}
use Rattle.frame_shown.specs.Values.{fields_in, fields_shown, hexadecimal, info_of}
use Rattle.frame_shown.specs.Values.{ipv6_named}
use Rattle.frame_shown.specs.Values.{record_shown, setting_names, settings_shown}
use Rattle.frame_shown.specs.declared.form.Around.{Around}
use Rattle.frame_shown.specs.declared.form.Form.{Form}
use Rattle.frame_shown.specs.declared.form.Form.TheVariants as Forms
use Rattle.frame_shown.specs.declared.form.List.{List as Shape}
use Rattle.frame_shown.specs.declared.form.List.TheVariants as Shapes
use Rattle.frame_shown.specs.declared.form.Order.{Order}
use Rattle.frame_shown.specs.declared.form.Order.TheVariants as Orders
use Rattle.frame_shown.specs.declared.form.Way.{Way}
use Rattle.frame_shown.specs.declared.form.Way.TheVariants as Ways
use Rattle.frame_diff.specs.Counters.{action_in, fields_left, is_clear, is_passed}
use Rattle.frame_diff.specs.Forests.{AreApart, Forest, Held, Member, Step, comes, find, forest, is_step, left_of}
use Rattle.frame_diff.specs.Forests.{rest_step}
use Rattle.frame_diff.specs.Keys.{key_at, number_in}
use Rattle.frame_diff.specs.Labels.{labelled, labels_of}
use Rattle.frame_diff.specs.Members.{Inner, Reading, alone, as_object, attributes_in, earlier, entries_in, entry_of}
use Rattle.frame_diff.specs.Members.{entries_inside, entry_with, inside_of, inside_with, numbers_by}
use Rattle.frame_diff.specs.Members.{is_unnamed, array_at, arrays_in, arrays_of, value_with, values_with}
use Rattle.frame_diff.specs.Members.{fields, fields_kept, form_inside, frame_member, held_by, held_inside}
use Rattle.frame_diff.specs.Members.{are_plain, ipv6_inside, values_inside}
use Rattle.frame_diff.specs.Members.{is_some}
use Rattle.frame_diff.specs.Members.{kept_by, kept_in, list_at, list_members, meaning_inside, members_in}
use Rattle.frame_diff.specs.Members.{message_members, named, named_by, named_in, placed, placed_one}
use Rattle.frame_diff.specs.Members.{Parts, places, reading, refused_in, refused_step, unless_none, way_inside}
use Rattle.frame_diff.specs.Members.{kept_inside, kept_with, others_at, list_by}
use Rattle.frame_diff.specs.declared.keys.Key.{Key}
use Rattle.frame_diff.specs.declared.labels.Label.{Label}
use Rattle.frame_diff.specs.declared.keys.Key.TheVariants as Keys
use Rattle.frame_shown.specs.Items.{Lists}
use Rattle.link_info.specs.declared.place.Place.TheVariants as Places
use Rattle.link_vlans.specs.Runs.{are_apart, runs_in}
use Rattle.link_vlans.specs.declared.run.Run.{Run}
use Rattle.link_vlans.proofs.Say.{runs_apart as runs_are_apart}
use Rattle.frame_diff.specs.Forests.{runs_inside}
use Rattle.frame_diff.specs.Members.{message_made, runs_by, runs_or, unless_empty}
use Rattle.frame_diff.specs.Members.{flat_inside, is_own_key}

-- ** those of a list of members

abbrev pub AllApart : List Member → Type 0
AllApart [] = Unit {0}
AllApart (m ∷ ms) = AreApart m.1.1 × AllApart ms

pub find_none : (s : Step) (ms : List Member) → comes s ms ≡ false → find s (forest ms) ≡ None
find_none s [] none = refl
find_none s (m ∷ ms) none = by (is_step m.0 s) refl none (comes m.0 ms) (find_none s ms)
  where
    by : (b : Bool) → is_step m.0 s ≡ b → cond b true (comes s ms) ≡ false → (c : Bool)
        → (comes s ms ≡ false → find s (forest ms) ≡ None)
        → find s (cond c (forest ms) (Forest.tree m.0 m.1.0 m.1.1 (forest ms))) ≡ None
    by true is h c later = absurd cc
    by false is h true later = later h
    by false is h false later = ap (λ b. cond b (Some (m.1.0, m.1.1)) (find s (forest ms))) is ∙ later h

pub no_runs : (ms : List Member) → runs_inside (forest ms) ≡ []
no_runs [] = refl
no_runs (m ∷ ms) = by (comes m.0 ms) (no_runs ms)
  where
    by : (c : Bool) → runs_inside (forest ms) ≡ []
        → runs_inside (cond c (forest ms) (Forest.tree m.0 m.1.0 m.1.1 (forest ms))) ≡ []
    by true later = later
    by false later = refl

pub forest_apart : (ms : List Member) → AllApart ms → AreApart (forest ms)
forest_apart [] h = tt
forest_apart (m ∷ ms) h = by (comes m.0 ms) refl (forest_apart ms h.1)
  where
    by : (c : Bool) → comes m.0 ms ≡ c → AreApart (forest ms)
        → AreApart (cond c (forest ms) (Forest.tree m.0 m.1.0 m.1.1 (forest ms)))
    by true is later = later
    by false is later = (find_none m.0 ms is, h.0, later, no_runs ms)

append_apart : (xs ys : List Member) → AllApart xs → AllApart ys → AllApart (xs ++ ys)
append_apart [] ys h k = k
append_apart (x ∷ xs) ys h k = (h.0, append_apart xs ys h.1 k)

each_apart : {X : Type 0} (F : X → List Member) (xs : List X) → ((x : X) → AllApart (F x)) → AllApart (flat_map F xs)
each_apart F [] h = tt
each_apart F (x ∷ xs) h = append_apart (F x) (flat_map F xs) (h x) (each_apart F xs h)

named_apart : (ms : Members) → AllApart (named ms)
named_apart [] = tt
named_apart (m ∷ ms) = (tt, named_apart ms)

pub fields_apart : (ms : Members) → AreApart (fields ms)
fields_apart ms = forest_apart (named ms) (named_apart ms)

pub left_apart : (is_any : Bool) (ms : List Member) → AllApart ms → AreApart (left_of is_any ms)
left_apart true [] h = tt
left_apart false [] h = tt
left_apart is_any (m ∷ ms) h = forest_apart (m ∷ ms) h

kept_fields_apart : (action : Action) (sizes : List ℕ) (ms : Members) → AreApart (fields_kept action sizes ms)
kept_fields_apart action sizes ms =
    let left = fields_left action 0 sizes ms in left_apart (is_some ms) (named left) (named_apart left)

-- ** those of a list of values

abbrev pub HeldApart : List (Option Held) → Type 0
HeldApart [] = Unit {0}
HeldApart (None ∷ hs) = HeldApart hs
HeldApart (Some held ∷ hs) = AreApart held.1 × HeldApart hs

held_append : (xs ys : List (Option Held)) → HeldApart xs → HeldApart ys → HeldApart (xs ++ ys)
held_append [] ys h k = k
held_append (None ∷ xs) ys h k = held_append xs ys h k
held_append (Some held ∷ xs) ys h k = (h.0, held_append xs ys h.1 k)

each_held : {X : Type 0} (F : X → List (Option Held)) (xs : List X) → ((x : X) → HeldApart (F x))
    → HeldApart (flat_map F xs)
each_held F [] h = tt
each_held F (x ∷ xs) h = held_append (F x) (flat_map F xs) (h x) (each_held F xs h)

one_apart : (n : ℕ) (held : Held) → AreApart held.1 → AllApart (placed_one n (Some held))
one_apart n held h = (h, tt)

placed_apart : (n : ℕ) (hs : List (Option Held)) → HeldApart hs → AllApart (placed n hs)
placed_apart n [] h = tt
placed_apart n (None ∷ hs) h = placed_apart (n + 1) hs h
placed_apart n (Some held ∷ hs) h =
    append_apart (placed_one n (Some held)) (placed (n + 1) hs) (one_apart n held h.0) (placed_apart (n + 1) hs h.1)

places_apart : (hs : List (Option Held)) → HeldApart hs → AreApart (places hs)
places_apart hs h = forest_apart (placed 0 hs) (placed_apart 0 hs h)

unless_apart : (s : Step) (value : List Token) (f : Forest) → AreApart f → AllApart (unless_none s value f)
unless_apart s value Forest.none h = tt
unless_apart s value Forest.passed h = tt
unless_apart s value (Forest.vlans runs) h = tt
unless_apart s value (Forest.texts vs) h = tt
unless_apart s value (Forest.tree a b c d) h = (h, tt)

labelled_apart : (key : Key) (ls : List Label) (hs : List (Option Held)) → HeldApart hs
    → AllApart (labelled key ls hs)
labelled_apart key [] hs h = tt
labelled_apart key (l ∷ ls) [] h = tt
labelled_apart key (l ∷ ls) (None ∷ hs) h = labelled_apart key ls hs h
labelled_apart key (l ∷ ls) (Some held ∷ hs) h = (h.0, labelled_apart key ls hs h.1)

pub each_apart_inside : (key : Option Key) (ns : List (Option ℕ)) (hs : List (Option Held)) → HeldApart hs
    → AreApart (inside_of key ns hs)
each_apart_inside None ns hs h = places_apart hs h
each_apart_inside (Some key) ns hs h =
    forest_apart (labelled key (labels_of ns) hs) (labelled_apart key (labels_of ns) hs h)

inside_apart : (own : Bool) (hs : List (Option Held)) (inside : Forest) → AreApart inside
    → AreApart (values_inside own hs inside)
inside_apart own hs inside h = by (are_plain hs) own
  where
    by : (b own : Bool) → AreApart (cond b (flat_inside own hs) inside)
    by true true = tt
    by true false = tt
    by false own = h

list_apart : (s : Step) (hs : List (Option Held)) (inside : Forest) → AreApart inside → AllApart (list_by s hs inside)
list_apart s hs inside h = unless_apart s _ inside h

-- ** those of a payload

abbrev pub InnerApart : Inner → Type 0
InnerApart inner = (list : Shape) (p : List ℕ) → AreApart (inner list p)

meaning_apart : (inner : Inner) (action : Action) (meaning : Meaning) → InnerApart inner
    → AreApart (meaning_inside inner action meaning)
meaning_apart inner action (Fields members p) h =
    kept_fields_apart action (map (λ m. plain_size m.1) members) (record_shown members p)
meaning_apart inner action (Elements plain p) h = tt
meaning_apart inner action (Listed plain p) h = tt
meaning_apart inner action (Nested place p) h = h (Shapes.Of place) p
meaning_apart inner action (Raw p) h = tt
meaning_apart inner action Present h = tt
meaning_apart inner action (Number n) h = tt
meaning_apart inner action (Signed z) h = tt
meaning_apart inner action (Words s) h = tt
meaning_apart inner action (Hardware octets) h = tt
meaning_apart inner action (Four address) h = tt
meaning_apart inner action (Six address) h = tt

ipv6_apart : (order : Order) (p : List ℕ) → AreApart (ipv6_inside order p)
ipv6_apart Orders.Unknown p = tt
ipv6_apart Orders.Before p = fields_apart (ipv6_named false p)
ipv6_apart Orders.Since p = fields_apart (ipv6_named true p)

form_apart : (inner : Inner) (cx : Around) (action : Action) (form : Form) (p : List ℕ) → InnerApart inner
    → AreApart (form_inside inner cx action form p)
form_apart inner cx action (Forms.Counters words) p h =
    fields_apart (counters_shown (counter_names words) (counter_width words) p 0)
form_apart inner cx action Forms.Ipv6Counters p h = ipv6_apart cx.order p
form_apart inner cx action (Forms.Settings set) p h =
    kept_fields_apart action (map (λ name. 4) (setting_names set))
    (settings_shown (setting_names set) p 0 ++ behind_settings set p)
form_apart inner cx action (Forms.Record parts) p h = fields_apart (fields_shown cx (fields_in parts) p)
form_apart inner cx action Forms.Wireless p h = fields_apart (((event_in p).0, hexadecimal (event_in p).1) ∷ [])
form_apart inner cx action (Forms.List list) p h = h list p
form_apart inner cx action Forms.Info p h = h (info_of p) p
form_apart inner cx action Forms.Kept p h = tt
form_apart inner cx action Forms.Unflagged p h = tt
form_apart inner cx action (Forms.Number size) p h = tt
form_apart inner cx action Forms.Signed p h = tt
form_apart inner cx action Forms.Text p h = tt
form_apart inner cx action (Forms.Exact size) p h = tt
form_apart inner cx action Forms.Truth p h = tt
form_apart inner cx action Forms.Id p h = tt
form_apart inner cx action Forms.Address p h = tt
form_apart inner cx action (Forms.Choice choice) p h = tt
form_apart inner cx action (Forms.Flags bits) p h = tt
form_apart inner cx action Forms.Ipv6 p h = tt
form_apart inner cx action (Forms.Field field) p h = tt

pub way_apart : (inner : Inner) (cx : Around) (action : Action) (way : Way) (p : List ℕ) → InnerApart inner
    → AreApart (way_inside inner cx action way p)
way_apart inner cx action (Ways.Own form) p h = form_apart inner cx action form p h
way_apart inner cx action (Ways.By style) p h = meaning_apart inner action (read_as style p) h

-- ** those of attributes

pub held_apart : (inner : Inner) (cx : Around) (action : Action) (way : Way) (p : List ℕ) → InnerApart inner
    → AreApart (held_inside inner cx action way p)
held_apart inner cx action way p h = by (is_clear action)
  where
    by : (b : Bool) → AreApart (cond b Forest.passed (way_inside inner cx action way p))
    by true = tt
    by false = way_apart inner cx action way p h

named_by_apart : (r : Reading) (action : Action) (row : Known) (f : Frame) → InnerApart r.inner
    → AllApart (named_by r action row f)
named_by_apart r action row f h = by (is_unnamed row.1 f.payload)
  where
    by : (b : Bool) → AllApart (cond b [] ((Step.name row.0, held_by r action row.1 f.payload) ∷ []))
    by true = tt
    by false = (held_apart r.inner r.around action row.1 f.payload h, tt)

named_in_apart : (r : Reading) (list : Shape) (fs : List Frame) → InnerApart r.inner → AllApart (named_in r list fs)
named_in_apart r list fs h = each_apart (frame_member r list) fs
    (λ f. named_by_apart r (action_in r.is_state list (number f)) (row_in r.around list (number f)) f h)

alone_apart : (s : Step) (held : Held) → AreApart held.1 → HeldApart (alone (s, held) ∷ [])
alone_apart (Step.name name) held h = ((refl, h, tt, refl), tt)
alone_apart (Step.array name) held h = tt
alone_apart (Step.part sort text) held h = tt
alone_apart (Step.place n) held h = tt
alone_apart (Step.label name label) held h = tt
alone_apart Step.repeated held h = tt
alone_apart Step.other held h = tt

earlier_apart : (ms : List Member) → AllApart ms → HeldApart (earlier ms)
earlier_apart [] h = tt
earlier_apart (m ∷ ms) h =
    held_append (cond (comes m.0 ms) (alone m ∷ []) []) (earlier ms) (by (comes m.0 ms)) (earlier_apart ms h.1)
  where
    by : (b : Bool) → HeldApart (cond b (alone m ∷ []) [])
    by true = alone_apart m.0 m.1 h.0
    by false = tt

kept_by_apart : (passed : Bool) (cx : Around) (row : Known) (f : Frame) → HeldApart (kept_by passed cx row f)
kept_by_apart passed cx row f = by (is_kept row.1 f.payload) passed
  where
    ms : Members
    ms = frame_members row.0 (kind_shown row.1 f.kind) f.payload

    by : (b c : Bool) → HeldApart (cond b (cond c None (Some (as_object ms)) ∷ []) [])
    by false c = tt
    by true true = tt
    by true false = (fields_apart ms, tt)

kept_in_apart : (r : Reading) (list : Shape) (fs : List Frame) → HeldApart (kept_in r list fs)
kept_in_apart r list fs =
    each_held (kept_with r list) fs
    (λ f. kept_by_apart (is_passed r.is_state list (number f)) r.around (row_in r.around list (number f)) f)

kept_inside_apart : (r : Reading) (list : Shape) (fs : List Frame) → AreApart (kept_inside r list fs)
kept_inside_apart r list fs =
    each_apart_inside (Some Keys.Number) (numbers_by (λ f. Some (number f)) (kept_with r list) fs) (kept_in r list fs)
    (kept_in_apart r list fs)

value_with_apart : (r : Reading) (list : Shape) (n : ℕ) → InnerApart r.inner → (f : Frame)
    → HeldApart (value_with r list n f)
value_with_apart r list n h f = by (number f == n) (is_each row.1)
  where
    row : Known
    row = row_in r.around list (number f)

    action : Action
    action = action_in r.is_state list (number f)

    by : (b c : Bool) → HeldApart (cond b (cond c (Some (held_by r action row.1 f.payload) ∷ []) []) [])
    by true true = (held_apart r.inner r.around action row.1 f.payload h, tt)
    by true false = tt
    by false c = tt

array_apart : (name : List ℕ) (own : Bool) (hs : List (Option Held)) (inside : Forest) → AreApart inside
    → AllApart (array_at name own hs inside)
array_apart name own [] inside h = tt
array_apart name own (x ∷ hs) inside h = (inside_apart own (x ∷ hs) inside h, tt)

some_are : (runs : Option (List Run)) (rs : List Run) → unless_empty runs ≡ Some rs → runs ≡ Some rs
some_are None rs is = absurd cc
some_are (Some []) rs is = absurd cc
some_are (Some (r ∷ rs)) ss is = is

pub runs_apart : (picks : Option ℕ) (list : Shape) (fs : List Frame) (rs : List Run)
    → runs_by picks list fs ≡ Some rs → are_apart None rs ≡ true
runs_apart (Some n) (Shapes.Of Places.BridgeSpec) fs rs is =
    runs_are_apart n fs rs (some_are (runs_in n fs) rs is)
runs_apart _ _ fs rs is = absurd cc

runs_or_apart : (runs : Option (List Run)) (inside : Forest)
    → ((rs : List Run) → runs ≡ Some rs → are_apart None rs ≡ true) → AreApart inside
    → AreApart (runs_or runs inside)
runs_or_apart None inside apart h = h
runs_or_apart (Some rs) inside apart h = apart rs refl

inside_with_apart : (r : Reading) (list : Shape) (n : ℕ) (fs : List Frame) → InnerApart r.inner
    → AreApart (inside_with r list n fs)
inside_with_apart r list n fs h =
    let key = key_at (Some n) list in
    runs_or_apart (runs_by (Some n) list fs)
    (inside_of key (numbers_by (number_in r.around key list) (value_with r list n) fs) (values_with r list n fs))
    (runs_apart (Some n) list fs)
    (each_apart_inside key (numbers_by (number_in r.around key list) (value_with r list n) fs) (values_with r list n fs)
    (each_held (value_with r list n) fs (value_with_apart r list n h)))

arrays_apart : (r : Reading) (list : Shape) (lists : Lists) (fs : List Frame) → InnerApart r.inner
    → AllApart (arrays_of r list lists fs)
arrays_apart r list lists fs h =
    each_apart
    (λ l. array_at l.1 (is_own_key (Some l.0) list) (values_with r list l.0 fs) (inside_with r list l.0 fs)) lists
    (λ l. array_apart l.1 (is_own_key (Some l.0) list) (values_with r list l.0 fs) (inside_with r list l.0 fs)
    (inside_with_apart r list l.0 fs h))

members_apart : (r : Reading) (list : Shape) (fs : List Frame) → InnerApart r.inner
    → AllApart (members_in r list fs)
members_apart r list fs h =
    let ms = named_in r list fs in
    let lists = arrays_in r list fs in
    append_apart (ms ++ lists ++ list_at Step.repeated (earlier ms)) (others_at Step.other r list fs)
    (append_apart (ms ++ lists) (list_at Step.repeated (earlier ms))
    (append_apart ms lists (named_in_apart r list fs h) (arrays_apart r list (lists_in r.around list) fs h))
    (list_apart Step.repeated (earlier ms) (places (earlier ms))
    (places_apart (earlier ms) (earlier_apart ms (named_in_apart r list fs h)))))
    (list_apart Step.other (kept_in r list fs) (kept_inside r list fs) (kept_inside_apart r list fs))

values_apart : (ms : List Member) → AllApart ms → HeldApart (map (λ (m : Member). Some m.1) ms)
values_apart [] h = tt
values_apart (m ∷ ms) h = (h.0, values_apart ms h.1)

entries_apart : (r : Reading) (list : Shape) (fs : List Frame) → InnerApart r.inner
    → HeldApart (entries_in r list fs)
entries_apart r list fs h = each_held (entry_with r list) fs (λ f. by f (number f == 1))
  where
    by : (f : Frame) (b : Bool) → HeldApart (cond b (Some (entry_of r list f.payload) ∷ []) [])
    by f true = (
      left_apart (is_some (frames_in (items f.payload))) (members_in r list (frames_in (items f.payload)))
          (members_apart r list (frames_in (items f.payload)) h),
      tt,
    )
    by f false = tt

pub list_members_apart : (r : Reading) (list : Shape) (fs : List Frame) → InnerApart r.inner
    → AllApart (list_members r list fs)
list_members_apart r (Shapes.Listed group table) fs h = (
  inside_apart (is_own_key None (Shapes.Listed group table))
      (map (λ (m : Member). Some m.1) (named_in r (Shapes.Listed group table) fs))
      (places (map (λ (m : Member). Some m.1) (named_in r (Shapes.Listed group table) fs)))
      (places_apart (map (λ (m : Member). Some m.1) (named_in r (Shapes.Listed group table) fs))
      (values_apart (named_in r (Shapes.Listed group table) fs) (named_in_apart r (Shapes.Listed group table) fs h))),
  list_apart (rest_step (codes "other")) (kept_in r (Shapes.Listed group table) fs)
      (kept_inside r (Shapes.Listed group table) fs) (kept_inside_apart r (Shapes.Listed group table) fs),
)
list_members_apart r (Shapes.Entries group) fs h =
    let list = Shapes.Entries group in
    let key = key_at None list in
    let hs = entries_in r (entry_list group) fs in (
      inside_apart false hs (entries_inside r group fs)
          (each_apart_inside key (numbers_by (number_in r.around key list) (entry_with r (entry_list group)) fs) hs
          (entries_apart r (entry_list group) fs h)),
      tt,
    )
list_members_apart r (Shapes.Message family) fs h = members_apart r (Shapes.Message family) fs h
list_members_apart r (Shapes.Own table) fs h = members_apart r (Shapes.Own table) fs h
list_members_apart r (Shapes.Of place) fs h = members_apart r (Shapes.Of place) fs h
list_members_apart r Shapes.ProtoInet6 fs h = members_apart r Shapes.ProtoInet6 fs h
list_members_apart r Shapes.Refused fs h = members_apart r Shapes.Refused fs h
list_members_apart r (Shapes.Info link port) fs h = members_apart r (Shapes.Info link port) fs h

reading_apart : (n : ℕ) (is_state : Bool) (cx : Around) → InnerApart (reading n is_state cx).inner
reading_apart zero is_state cx list p = tt
reading_apart (suc n) is_state cx list p =
    left_apart (is_some (frames_in (items p))) (list_members (reading n is_state cx) list (frames_in (items p)))
    (list_members_apart (reading n is_state cx) list (frames_in (items p)) (reading_apart n is_state cx))

-- ** those of a message

refused_apart : (is_state : Bool) (cx : Around) (bytes : List ℕ) → AllApart (refused_in is_state cx bytes)
refused_apart is_state cx bytes =
    unless_apart refused_step (levels 1 cx Shapes.Refused bytes) ((reading 1 is_state cx).inner Shapes.Refused bytes)
    (reading_apart 1 is_state cx Shapes.Refused bytes)

pub made_apart : (is_state : Bool) (cx : Around) (m : Parts) → AreApart (message_made is_state cx m)
unfolding message_members
made_apart is_state cx m =
    let family = slice_index m.header 0 in
    let fs = frames_in (items m.attributes) in
    let around = with_address_len cx (address_len fs) in
    let attributes = attributes_in is_state cx family m.attributes in
    let refused = refused_in is_state cx m.refused in
    forest_apart (named (header_members m.header) ++ attributes ++ refused)
    (append_apart (named (header_members m.header)) (attributes ++ refused)
    (named_apart (header_members m.header))
    (append_apart attributes refused
    (members_apart (reading 5 is_state around) (Shapes.Message family) fs (reading_apart 5 is_state around))
    (refused_apart is_state cx m.refused)))
