-- The members of what is shown of a message, by the rows of its frames: the step to each, its value as it is shown, and
-- those inside it. What a state clears is no member, where states are compared.
use Rattle.std.specs.Prelude.{ℕ, zero, suc, ◌+◌, ◌==◌, List, [], ◌∷◌, ◌++◌, Bool, true, false, Option, Some, None, cond}
use Rattle.std.specs.Prelude.{◌&&◌, codes, drop, map, not, slice_index}
use Rattle.std.specs.List.{flat_map}
use Rattle.json.specs.Token.{Token, begin_array, begin_object, end_array, end_object, key, string}
use Rattle.json.specs.Token.{number as number_token}
use Rattle.json.specs.Token.{boolean, null, bad}
use Rattle.nla_wire.specs.Frames.{Frame, number}
use Rattle.nla_wire.specs.Items.{items}
use Rattle.link_info.specs.Meanings.{Meaning, Raw, Present, Number, Signed, Words, Hardware, Four, Six}
use Rattle.link_info.specs.Meanings.{Members as Fields, Elements, Listed, Nested, read_as}
use Rattle.link_info.specs.Styles.{plain_size}
use Rattle.link_info.specs.Tables.{frames_in}
use Rattle.link_info.specs.declared.place.Place.TheVariants as Places
use Rattle.link_info.specs.declared.style.Plain.{Plain}
use Rattle.link_state.specs.Table.{Action}
use Rattle.link_vlans.specs.Runs.{runs_in}
use Rattle.link_vlans.specs.declared.run.Run.{Run}
use Rattle.shown.specs.Drafts.{Members, list_of, object_of}
use Rattle.frame_shown.specs.Accepted.{accepted, refused as not_accepted}
use Rattle.frame_shown.specs.Frames.{items_in, levels, way_shown}
use Rattle.frame_shown.specs.Items.{Lists, members_of}
use Rattle.frame_shown.specs.Kept.{frame_members}
use Rattle.frame_shown.specs.Messages.{address_len, header_members, with_address_len}
use Rattle.frame_shown.specs.Tables.{Known, entry_list, group_name, is_each, is_kept, kind_shown, lists_in, row_in}
use Rattle.frame_shown.specs.Values.{Nesting, behind_settings, counter_names, counter_width, counters_shown}
use Rattle.frame_shown.specs.Values.{event_in, fields_in, fields_shown, hexadecimal, info_of, payloads_shown}
use Rattle.frame_shown.specs.Values.{ipv6_named}
use Rattle.frame_shown.specs.Values.{record_shown, setting_names, settings_shown}
use Rattle.frame_shown.specs.declared.form.Around.{Around}
use Rattle.frame_shown.specs.declared.form.Form.{Form}
use Rattle.frame_shown.specs.declared.form.Form.TheVariants as Forms
use Rattle.frame_shown.specs.declared.form.Group.{Group}
use Rattle.frame_shown.specs.declared.form.List.{List as Shape}
use Rattle.frame_shown.specs.declared.form.List.TheVariants as Shapes
use Rattle.frame_shown.specs.declared.form.Table.TheVariants as Tables
use Rattle.frame_shown.specs.declared.form.Order.{Order}
use Rattle.frame_shown.specs.declared.form.Order.TheVariants as Orders
use Rattle.frame_shown.specs.declared.form.Way.{Way}
use Rattle.frame_shown.specs.declared.form.Way.TheVariants as Ways
use Rattle.frame_diff.specs.Counters.{action_in, fields_left, is_clear, is_passed}
use Rattle.frame_diff.specs.Forests.{Forest, Held, Member, Step, comes, entries_step, field_step, forest, left_of}
use Rattle.frame_diff.specs.Forests.{rest_step, values_step}
use Rattle.frame_diff.specs.Keys.{key_at, number_in}
use Rattle.frame_diff.specs.Labels.{keyed}
pub use Rattle.frame_diff.specs.Named.{is_unnamed}
use Rattle.frame_diff.specs.Settled.{settled}
use Rattle.frame_diff.specs.Vlans.{flat}
use Rattle.frame_diff.specs.declared.keys.Key.{Key}
use Rattle.frame_diff.specs.declared.keys.Key.TheVariants as Keys

-- the members inside a list of attributes
abbrev pub Inner : Type 0
Inner = Shape → List ℕ → Forest

-- ** values with names, and values in a list

abbrev pub named : Members → List Member
named ms = map (λ m. (field_step m.0, (m.1, Forest.none))) ms

abbrev pub fields : Members → Forest
fields ms = forest (named ms)

abbrev pub is_some : {X : Type 0} → List X → Bool
is_some [] = false
is_some (x ∷ xs) = true

-- those of a record that a state does not clear, by the sizes of its fields
abbrev pub fields_kept : Action → List ℕ → Members → Forest
fields_kept action sizes ms = left_of (is_some ms) (named (fields_left action 0 sizes ms))

-- an object or a list
abbrev pub is_nest : List Token → Bool
is_nest [] = false
is_nest (begin_object ∷ ts) = true
is_nest (begin_array ∷ ts) = true
is_nest (end_object ∷ ts) = false
is_nest (end_array ∷ ts) = false
is_nest (key s ∷ ts) = false
is_nest (string s ∷ ts) = false
is_nest (number_token s ∷ ts) = false
is_nest (boolean b ∷ ts) = false
is_nest (null ∷ ts) = false
is_nest (bad ∷ ts) = false

-- one that is passed over has its place all the same
abbrev pub placed_one : ℕ → Option Held → List Member
placed_one n None = []
placed_one n (Some held) = (Step.place n, held) ∷ []

abbrev pub placed : ℕ → List (Option Held) → List Member
placed n [] = []
placed n (h ∷ hs) = placed_one n h ++ placed (n + 1) hs

abbrev pub places : List (Option Held) → Forest
places hs = forest (placed 0 hs)

-- none of them is an object or a list
abbrev pub is_nested : Option Held → Bool
is_nested None = false
is_nested (Some held) = is_nest held.0

abbrev pub are_plain : List (Option Held) → Bool
are_plain [] = true
are_plain (h ∷ hs) = not (is_nested h) && are_plain hs

abbrev pub value_in : Option Held → List Token
value_in None = []
value_in (Some held) = held.0

-- a list whose values are their own keys: alternative names, and the addresses of a macvlan
abbrev pub is_own_key : Option ℕ → Shape → Bool
is_own_key None (Shapes.Listed group Tables.Props) = true
is_own_key (Some n) (Shapes.Of Places.MacvlanAddresses) = true
is_own_key _ _ = false

abbrev pub flat_inside : Bool → List (Option Held) → Forest
flat_inside false hs = Forest.none
flat_inside true hs = Forest.texts (map value_in hs)

-- such a list is one value; of any other one each stands inside
abbrev pub values_inside : Bool → List (Option Held) → Forest → Forest
values_inside own hs inside = cond (are_plain hs) (flat_inside own hs) inside

-- by the key of the list, if it has one, and the number that each says; else by its place
abbrev pub inside_of : Option Key → List (Option ℕ) → List (Option Held) → Forest
inside_of None ns hs = places hs
inside_of (Some kind) ns hs = keyed kind ns hs

-- ** those of a payload, by its row and by what a state clears of it; a list of values is a leaf

-- the payloads of frames as values, one after the other
abbrev pub slots_shown : Plain → List ℕ → List (List Token)
slots_shown plain p = map (λ m. m.1) (payloads_shown plain (items p))

abbrev pub meaning_inside : Inner → Action → Meaning → Forest
meaning_inside inner action (Fields members p) =
    fields_kept action (map (λ m. plain_size m.1) members) (record_shown members p)
meaning_inside inner action (Nested place p) = inner (Shapes.Of place) p
meaning_inside inner action (Elements plain p) = Forest.none
meaning_inside inner action (Listed plain p) = Forest.texts (slots_shown plain p)
meaning_inside inner action (Raw p) = Forest.none
meaning_inside inner action Present = Forest.none
meaning_inside inner action (Number n) = Forest.none
meaning_inside inner action (Signed z) = Forest.none
meaning_inside inner action (Words s) = Forest.none
meaning_inside inner action (Hardware octets) = Forest.none
meaning_inside inner action (Four address) = Forest.none
meaning_inside inner action (Six address) = Forest.none

abbrev pub ipv6_inside : Order → List ℕ → Forest
ipv6_inside Orders.Unknown p = Forest.none
ipv6_inside Orders.Before p = fields (ipv6_named false p)
ipv6_inside Orders.Since p = fields (ipv6_named true p)

abbrev pub form_inside : Inner → Around → Action → Form → List ℕ → Forest
form_inside inner cx action (Forms.Counters words) p =
    fields (counters_shown (counter_names words) (counter_width words) p 0)
form_inside inner cx action Forms.Ipv6Counters p = ipv6_inside cx.order p
form_inside inner cx action (Forms.Settings set) p =
    fields_kept action (map (λ name. 4) (setting_names set))
    (settings_shown (setting_names set) p 0 ++ behind_settings set p)
form_inside inner cx action (Forms.Record parts) p = fields (fields_shown cx (fields_in parts) p)
form_inside inner cx action Forms.Wireless p = fields (((event_in p).0, hexadecimal (event_in p).1) ∷ [])
form_inside inner cx action (Forms.List list) p = inner list p
form_inside inner cx action Forms.Info p = inner (info_of p) p
form_inside inner cx action Forms.Kept p = Forest.none
form_inside inner cx action Forms.Unflagged p = Forest.none
form_inside inner cx action (Forms.Number size) p = Forest.none
form_inside inner cx action Forms.Signed p = Forest.none
form_inside inner cx action Forms.Text p = Forest.none
form_inside inner cx action (Forms.Exact size) p = Forest.none
form_inside inner cx action Forms.Truth p = Forest.none
form_inside inner cx action Forms.Id p = Forest.none
form_inside inner cx action Forms.Address p = Forest.none
form_inside inner cx action (Forms.Choice choice) p = Forest.none
form_inside inner cx action (Forms.Flags bits) p = Forest.none
form_inside inner cx action Forms.Ipv6 p = Forest.none
form_inside inner cx action (Forms.Field field) p = Forest.none

abbrev pub way_inside : Inner → Around → Action → Way → List ℕ → Forest
way_inside inner cx action (Ways.Own form) p = form_inside inner cx action form p
way_inside inner cx action (Ways.By style) p = meaning_inside inner action (read_as style p)

-- ** attributes

-- what frames are read by: whether they are of a state, and how lists in them are shown
pub record Reading : Type 0 where
  pub is_state : Bool
  pub nest : Nesting
  pub inner : Inner
  pub around : Around

-- the members inside a value: where it moves by itself, it has some, and all are passed over
abbrev pub held_inside : Inner → Around → Action → Way → List ℕ → Forest
held_inside inner cx action way p = cond (is_clear action) Forest.passed (way_inside inner cx action way p)

abbrev pub held_by : Reading → Action → Way → List ℕ → Held
held_by r action way p = (way_shown r.nest r.around way p, held_inside r.inner r.around action way p)

-- an attribute that has a name
abbrev pub named_by : Reading → Action → Known → Frame → List Member
named_by r action row f =
    cond (is_unnamed row.1 f.payload) [] ((Step.name row.0, held_by r action row.1 f.payload) ∷ [])

abbrev pub frame_member : Reading → Shape → Frame → List Member
frame_member r list f =
    named_by r (action_in r.is_state list (number f)) (row_in r.around list (number f)) f

abbrev pub named_in : Reading → Shape → List Frame → List Member
named_in r list fs = flat_map (frame_member r list) fs

-- as an object of one member
abbrev pub alone : Member → Option Held
alone (Step.name name, held) =
    Some (object_of ((name, held.0) ∷ []), Forest.tree (Step.name name) held.0 held.1 Forest.none)
alone (Step.array name, held) = None
alone (Step.part sort text, held) = None
alone (Step.place n, held) = None
alone (Step.label name label, held) = None
alone (Step.repeated, held) = None
alone (Step.other, held) = None

-- those behind which another one of their name stands
abbrev pub earlier : List Member → List (Option Held)
earlier [] = []
earlier (m ∷ ms) = cond (comes m.0 ms) (alone m ∷ []) [] ++ earlier ms

-- one that is kept as it is
abbrev pub as_object : Members → Held
as_object ms = (object_of ms, fields ms)

abbrev pub kept_by : Bool → Around → Known → Frame → List (Option Held)
kept_by is_passed cx row f = cond (is_kept row.1 f.payload)
    (cond is_passed None (Some (as_object (frame_members row.0 (kind_shown row.1 f.kind) f.payload))) ∷ []) []

abbrev pub kept_with : Reading → Shape → Frame → List (Option Held)
kept_with r list f =
    kept_by (is_passed r.is_state list (number f)) r.around (row_in r.around list (number f)) f

abbrev pub kept_in : Reading → Shape → List Frame → List (Option Held)
kept_in r list fs = flat_map (kept_with r list) fs

-- ** lists of values

abbrev pub unless_none : Step → List Token → Forest → List Member
unless_none s value Forest.none = []
unless_none s value Forest.passed = []
unless_none s value (Forest.vlans runs) = []
unless_none s value (Forest.texts vs) = []
unless_none s value (Forest.tree a b c d) = (s, (value, Forest.tree a b c d)) ∷ []

-- at a step, where there are any: each at its place, or by its number
abbrev pub list_by : Step → List (Option Held) → Forest → List Member
list_by s hs inside = unless_none s (list_of (flat_map value_in hs)) inside

abbrev pub list_at : Step → List (Option Held) → List Member
list_at s hs = list_by s hs (places hs)

-- one list of values, at a step
abbrev pub group_of : Step → Bool → List (Option Held) → Forest → Member
group_of s own hs inside = (s, (list_of (flat_map value_in hs), values_inside own hs inside))

-- the number of each value of a list, by the attribute that it is of
abbrev pub numbers_by : (Frame → Option ℕ) → (Frame → List (Option Held)) → List Frame → List (Option ℕ)
numbers_by number_of values fs = flat_map (λ f. map (λ h. number_of f) (values f)) fs

-- those that are kept, by the number of each
abbrev pub kept_inside : Reading → Shape → List Frame → Forest
kept_inside r list fs =
    keyed Keys.Number (numbers_by (λ f. Some (number f)) (kept_with r list) fs) (kept_in r list fs)

abbrev pub others_at : Step → Reading → Shape → List Frame → List Member
others_at s r list fs = list_by s (kept_in r list fs) (kept_inside r list fs)

-- ** attributes that are the values of lists

abbrev pub each_by : Reading → Action → Known → Frame → List (Option Held)
each_by r action row f = cond (is_each row.1) (Some (held_by r action row.1 f.payload) ∷ []) []

-- what an attribute is in the list of a number
abbrev pub value_with : Reading → Shape → ℕ → Frame → List (Option Held)
value_with r list n f = cond (number f == n)
    (each_by r (action_in r.is_state list (number f)) (row_in r.around list (number f)) f) []

abbrev pub values_with : Reading → Shape → ℕ → List Frame → List (Option Held)
values_with r list n fs = flat_map (value_with r list n) fs

-- the runs of the VLANs of a port, in a list that a kernel writes so
abbrev pub unless_empty : Option (List Run) → Option (List Run)
unless_empty None = None
unless_empty (Some []) = None
unless_empty (Some (r ∷ rs)) = Some (r ∷ rs)

abbrev pub runs_by : Option ℕ → Shape → List Frame → Option (List Run)
runs_by (Some n) (Shapes.Of Places.BridgeSpec) fs = unless_empty (runs_in n fs)
runs_by _ _ fs = None

abbrev pub runs_or : Option (List Run) → Forest → Forest
runs_or None inside = inside
runs_or (Some runs) inside = Forest.vlans runs

-- and what stands inside it
abbrev pub inside_with : Reading → Shape → ℕ → List Frame → Forest
inside_with r list n fs = let kind = key_at (Some n) list in
    runs_or (runs_by (Some n) list fs)
    (inside_of kind (numbers_by (number_in r.around kind list) (value_with r list n) fs) (values_with r list n fs))

-- a list under its name, where it has a value
abbrev pub array_at : List ℕ → Bool → List (Option Held) → Forest → List Member
array_at name own [] inside = []
array_at name own (h ∷ hs) inside = group_of (Step.array name) own (h ∷ hs) inside ∷ []

abbrev pub arrays_of : Reading → Shape → Lists → List Frame → List Member
arrays_of r list lists fs =
    flat_map (λ l. array_at l.1 (is_own_key (Some l.0) list) (values_with r list l.0 fs) (inside_with r list l.0 fs))
    lists

abbrev pub arrays_in : Reading → Shape → List Frame → List Member
arrays_in r list fs = arrays_of r list (lists_in r.around list) fs

-- ** lists of attributes

-- as the members of an object
abbrev pub members_in : Reading → Shape → List Frame → List Member
members_in r list fs =
    named_in r list fs ++ arrays_in r list fs ++ list_at Step.repeated (earlier (named_in r list fs))
    ++ others_at Step.other r list fs

-- those that have a name in one list
abbrev pub listed_in : Reading → Group → Shape → List Frame → List Member
listed_in r group list fs =
    let hs = map (λ (m : Member). Some m.1) (named_in r list fs) in
    group_of (values_step (group_name group)) (is_own_key None list) hs (places hs)
    ∷ others_at (rest_step (codes "other")) r list fs

-- the objects in the attributes of number 1: as they are shown where they are told as a whole, and what stands inside
abbrev pub entry_of : Reading → Shape → List ℕ → Held
entry_of r list p = (
  object_of (members_of (lists_in r.around list) (items_in r.nest r.around list (items (settled r.is_state list p)))),
  left_of (is_some (frames_in (items p))) (members_in r list (frames_in (items p))),
)

abbrev pub entry_with : Reading → Shape → Frame → List (Option Held)
entry_with r list f = cond (number f == 1) (Some (entry_of r list f.payload) ∷ []) []

abbrev pub entries_in : Reading → Shape → List Frame → List (Option Held)
entries_in r list fs = flat_map (entry_with r list) fs

abbrev pub entries_inside : Reading → Group → List Frame → Forest
entries_inside r group fs = let list = Shapes.Entries group in let kind = key_at None list in
    inside_of kind (numbers_by (number_in r.around kind list) (entry_with r (entry_list group)) fs)
    (entries_in r (entry_list group) fs)

abbrev pub list_members : Reading → Shape → List Frame → List Member
list_members r (Shapes.Listed group table) fs = listed_in r group (Shapes.Listed group table) fs
list_members r (Shapes.Entries group) fs =
    group_of (entries_step (group_name group)) false (entries_in r (entry_list group) fs) (entries_inside r group fs)
    ∷ []
list_members r (Shapes.Message family) fs = members_in r (Shapes.Message family) fs
list_members r (Shapes.Own table) fs = members_in r (Shapes.Own table) fs
list_members r (Shapes.Of place) fs = members_in r (Shapes.Of place) fs
list_members r Shapes.ProtoInet6 fs = members_in r Shapes.ProtoInet6 fs
list_members r Shapes.Refused fs = members_in r Shapes.Refused fs
list_members r (Shapes.Info link port) fs = members_in r (Shapes.Info link port) fs

abbrev pub inner_by : Reading → Inner
inner_by r list p = left_of (is_some (frames_in (items p))) (list_members r list (frames_in (items p)))

-- so many levels deep
abbrev pub reading : ℕ → Bool → Around → Reading
reading zero is_state cx =
    record { is_state = is_state; nest = levels 0 cx; inner = λ list p. Forest.none; around = cx }
reading (suc n) is_state cx =
    record { is_state = is_state; nest = levels (suc n) cx; inner = inner_by (reading n is_state cx); around = cx }

-- ** messages

abbrev pub attributes_in : Bool → Around → ℕ → List ℕ → List Member
attributes_in is_state cx family bytes =
    let fs = frames_in (items bytes) in
    members_in (reading 5 is_state (with_address_len cx (address_len fs))) (Shapes.Message family) fs

-- the attributes that are refused, as one member, if there are any
abbrev pub refused_step : Step
refused_step = Step.part 4 (codes "refused")

abbrev pub refused_in : Bool → Around → List ℕ → List Member
refused_in is_state cx bytes =
    unless_none refused_step (levels 1 cx Shapes.Refused bytes) ((reading 1 is_state cx).inner Shapes.Refused bytes)

-- what is compared of a message, or of a state: its header, the attributes that are accepted, and those that are not
pub record Parts : Type 0 where
  pub header : List ℕ
  pub attributes : List ℕ
  pub refused : List ℕ

unfoldable pub message_members : Bool → Around → Parts → List Member
message_members is_state cx m =
    named (header_members m.header) ++ attributes_in is_state cx (slice_index m.header 0) m.attributes
    ++ refused_in is_state cx m.refused

abbrev pub message_made : Bool → Around → Parts → Forest
message_made is_state cx m = forest (message_members is_state cx m)

-- with each VLAN as a member
abbrev pub message_forest : Bool → Around → Parts → Forest
message_forest is_state cx m = flat (message_made is_state cx m)

-- of bytes that are a message; and of those that are read leniently
abbrev pub whole : List ℕ → Parts
whole bytes = record { header = bytes; attributes = drop 16 bytes; refused = [] }

abbrev pub leniently : List ℕ → Parts
leniently bytes = let family = slice_index bytes 0 in record {
  header = bytes;
  attributes = accepted true family (drop 16 bytes);
  refused = not_accepted family (drop 16 bytes);
}
