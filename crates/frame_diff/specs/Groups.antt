-- Lists of values under the name of a group, and what two of them tell, value by value.
use Rattle.std.specs.Prelude.{◌≡◌, ℕ, ◌+◌, List, [], ◌∷◌, Bool, true, false, Option, Some, None}
use Rattle.std.specs.Prelude.{codes, decimal, map}
use Rattle.std.specs.List.{flat_map}
use Rattle.nla_wire.specs.Frames.{Frame}
use Rattle.nla_wire.specs.Items.{items}
use Rattle.link_info.specs.Tables.{frames_in}
use Rattle.link_vlans.specs.declared.run.Run.{Run}
use Rattle.shown.specs.Drafts.{Members, list_of}
use Rattle.json.specs.Token.{Token}
use Rattle.frame_shown.specs.Frames.{list_shown}
use Rattle.frame_shown.specs.Tables.{entry_list, group_name}
use Rattle.frame_shown.specs.Values.{Nesting}
use Rattle.frame_shown.specs.declared.form.Around.{Around}
use Rattle.frame_shown.specs.declared.form.List.{List as Shape}
use Rattle.frame_shown.specs.declared.form.List.TheVariants as Shapes
use Rattle.frame_diff.specs.Forests.{Forest, Held, Member, Step, entries_step, forest, is_text, rest_step, values_step}
use Rattle.frame_diff.specs.Inside.{above}
use Rattle.frame_diff.specs.Items.{joined}
use Rattle.frame_diff.specs.Keys.{key_at, number_in}
use Rattle.frame_diff.specs.Members.{Reading, are_plain, entries_in, entry_with, frame_member, inside_of}
use Rattle.frame_diff.specs.Members.{is_own_key, list_by}
use Rattle.frame_diff.specs.Members.{runs_by, runs_or}
use Rattle.frame_diff.specs.Members.{named_in, numbers_by, value_in, value_with, values_inside, values_with}
use Rattle.frame_diff.specs.Settled.{settled}
use Rattle.frame_diff.specs.Values.{array_shown, kept_at, kept_inside_at, listed_shown}
use Rattle.frame_diff.specs.Walked.{Holding, Showing, held_at, held_items, reading_at}
use Rattle.frame_diff.specs.declared.side.Side.{Side}
use Rattle.frame_diff.specs.declared.walk.Attribute.{Attribute}
use Rattle.frame_diff.specs.declared.walk.Attributes.{Attributes}

-- ** which lists are shown as a list of values

abbrev pub is_group : Shape → Bool
is_group (Shapes.Listed group table) = true
is_group (Shapes.Entries group) = true
is_group (Shapes.Message family) = false
is_group (Shapes.Own table) = false
is_group (Shapes.Of place) = false
is_group Shapes.ProtoInet6 = false
is_group Shapes.Refused = false
is_group (Shapes.Info link port) = false

-- of these the ones whose values are objects
abbrev pub is_entries : Shape → Bool
is_entries (Shapes.Entries group) = true
is_entries (Shapes.Listed group table) = false
is_entries (Shapes.Message family) = false
is_entries (Shapes.Own table) = false
is_entries (Shapes.Of place) = false
is_entries Shapes.ProtoInet6 = false
is_entries Shapes.Refused = false
is_entries (Shapes.Info link port) = false

-- the step to the list of values
abbrev pub group_step : Shape → Step
group_step (Shapes.Listed group table) = values_step (group_name group)
group_step (Shapes.Entries group) = entries_step (group_name group)
group_step (Shapes.Message family) = Step.other
group_step (Shapes.Own table) = Step.other
group_step (Shapes.Of place) = Step.other
group_step Shapes.ProtoInet6 = Step.other
group_step Shapes.Refused = Step.other
group_step (Shapes.Info link port) = Step.other

-- lists of values under one name
abbrev pub is_same_group : Shape → Shape → Bool
is_same_group (Shapes.Listed one table) (Shapes.Listed two other) = is_text (group_name two) (group_name one)
is_same_group (Shapes.Entries one) (Shapes.Entries two) = is_text (group_name two) (group_name one)
is_same_group _ _ = false

-- ** the values

abbrev pub values_of : List Member → List (Option Held)
values_of ms = map (λ (m : Member). Some m.1) ms

abbrev pub group_values : Reading → Shape → List Frame → List (Option Held)
group_values r (Shapes.Entries group) fs = entries_in r (entry_list group) fs
group_values r (Shapes.Listed group table) fs = values_of (named_in r (Shapes.Listed group table) fs)
group_values r (Shapes.Message family) fs = values_of (named_in r (Shapes.Message family) fs)
group_values r (Shapes.Own table) fs = values_of (named_in r (Shapes.Own table) fs)
group_values r (Shapes.Of place) fs = values_of (named_in r (Shapes.Of place) fs)
group_values r Shapes.ProtoInet6 fs = values_of (named_in r Shapes.ProtoInet6 fs)
group_values r Shapes.Refused fs = values_of (named_in r Shapes.Refused fs)
group_values r (Shapes.Info link port) fs = values_of (named_in r (Shapes.Info link port) fs)

-- of all attributes, or of those of a number
abbrev pub picked_values : Reading → Option ℕ → Shape → List Frame → List (Option Held)
picked_values r None list fs = group_values r list fs
picked_values r (Some n) list fs = values_with r list n fs

abbrev pub group_at : Showing → Holding → Bool → Attributes → List (Option Held)
group_at nest inner is_state a =
    picked_values (reading_at nest inner is_state a.around.now) a.number a.list (frames_in (items a.bytes.now))

-- with all attributes, and with those of a number
abbrev pub all_of : Attributes → Attributes
all_of a = record { around = a.around; list = a.list; number = None; bytes = a.bytes }

abbrev pub of_number : ℕ → Attributes → Attributes
of_number n a = record { around = a.around; list = a.list; number = Some n; bytes = a.bytes }

-- what a frame is in it
abbrev pub values_by : Reading → Shape → Frame → List (Option Held)
values_by r (Shapes.Entries group) f = entry_with r (entry_list group) f
values_by r (Shapes.Listed group table) f = values_of (frame_member r (Shapes.Listed group table) f)
values_by r (Shapes.Message family) f = values_of (frame_member r (Shapes.Message family) f)
values_by r (Shapes.Own table) f = values_of (frame_member r (Shapes.Own table) f)
values_by r (Shapes.Of place) f = values_of (frame_member r (Shapes.Of place) f)
values_by r Shapes.ProtoInet6 f = values_of (frame_member r Shapes.ProtoInet6 f)
values_by r Shapes.Refused f = values_of (frame_member r Shapes.Refused f)
values_by r (Shapes.Info link port) f = values_of (frame_member r (Shapes.Info link port) f)

abbrev pub picked_by : Reading → Option ℕ → Shape → Frame → List (Option Held)
picked_by r None list f = values_by r list f
picked_by r (Some n) list f = value_with r list n f

-- it is shown as a list of values
abbrev pub is_valued : Option ℕ → Shape → Bool
is_valued None list = is_group list
is_valued (Some n) list = true

-- and all of them as one value
abbrev pub group_by : Bool → List (Option Held) → Forest → Held
group_by own hs inside = (list_of (flat_map value_in hs), values_inside own hs inside)

-- the number of each
abbrev pub numbers_at : Showing → Holding → Bool → Attributes → List (Option ℕ)
numbers_at nest inner is_state a =
    numbers_by (number_in a.around.now (key_at a.number a.list) a.list)
    (picked_by (reading_at nest inner is_state a.around.now) a.number a.list) (frames_in (items a.bytes.now))

-- each by its number, or by its place
abbrev pub labelled_inside : Showing → Holding → Bool → Attributes → Forest
labelled_inside nest inner is_state a = inside_of (key_at a.number a.list)
    (numbers_at nest inner is_state a) (group_at nest inner is_state a)

-- the runs of VLANs, where it is a list of these
abbrev pub runs_at : Attributes → Option (List Run)
runs_at a = runs_by a.number a.list (frames_in (items a.bytes.now))

abbrev pub group_inside : Showing → Holding → Bool → Attributes → Forest
group_inside nest inner is_state a = runs_or (runs_at a) (labelled_inside nest inner is_state a)

abbrev pub group_held : Showing → Holding → Bool → Attributes → Held
group_held nest inner is_state a =
    group_by (is_own_key a.number a.list) (group_at nest inner is_state a) (group_inside nest inner is_state a)

-- none is an object or a list, whatever attributes there are
abbrev pub IsFlat : Option ℕ → Shape → Type 0
IsFlat picks list = (r : Reading) (fs : List Frame) → are_plain (picked_values r picks list fs) ≡ true

-- as one value, where they are such
abbrev pub flat_shown : Nesting → Around → Option ℕ → Shape → List ℕ → List Token
flat_shown nest cx None list p = listed_shown nest cx list p
flat_shown nest cx (Some n) list p = array_shown nest cx list n p

-- ** one of them

-- a list of attributes as a value
abbrev pub entry_held : Showing → Holding → Bool → Around → Shape → List ℕ → Held
entry_held nest inner is_state cx list p =
    (list_shown (nest cx) cx list (settled is_state list p), above nest inner is_state cx list p)

abbrev pub list_held : Showing → Holding → Bool → Attributes → Held
list_held nest inner is_state a = entry_held nest inner is_state a.around.now a.list a.bytes.now

-- beside a list stands another one with its rows and its bytes
abbrev pub IsSameEntry : Attributes → Option Attributes → Type 0
IsSameEntry own None = ⊥
IsSameEntry own (Some a) = (own.list ≡ a.list) × (own.bytes.now ≡ a.bytes.now)

-- what an attribute is in a list of this kind
abbrev pub value_by : Showing → Holding → Bool → Shape → Attribute → Held
value_by nest inner is_state (Shapes.Entries group) a =
    entry_held nest inner is_state a.around.now (entry_list group) a.payload.now
value_by nest inner is_state (Shapes.Listed group table) a = held_at nest inner is_state a
value_by nest inner is_state (Shapes.Message family) a = held_at nest inner is_state a
value_by nest inner is_state (Shapes.Own table) a = held_at nest inner is_state a
value_by nest inner is_state (Shapes.Of place) a = held_at nest inner is_state a
value_by nest inner is_state Shapes.ProtoInet6 a = held_at nest inner is_state a
value_by nest inner is_state Shapes.Refused a = held_at nest inner is_state a
value_by nest inner is_state (Shapes.Info link port) a = held_at nest inner is_state a

abbrev pub value_at : Showing → Holding → Bool → Attribute → Held
value_at nest inner is_state a = value_by nest inner is_state a.list a

abbrev pub picked : Showing → Holding → Bool → Option Attribute → List (Option Held)
picked nest inner is_state None = []
picked nest inner is_state (Some a) = Some (value_at nest inner is_state a) ∷ []

-- ** beside each other

abbrev pub first_of : List (Option Held) → Option Held
first_of [] = None
first_of (h ∷ hs) = h

abbrev pub rest_of : List (Option Held) → List (Option Held)
rest_of [] = []
rest_of (h ∷ hs) = hs

-- beside the first one of those that are left, if there is an own one
abbrev pub first_by : Option Attribute → List (Option Held) → Option Held
first_by None hs = None
first_by (Some a) hs = first_of hs

abbrev pub rest_by : Option Attribute → List (Option Held) → List (Option Held)
rest_by None hs = hs
rest_by (Some a) hs = rest_of hs

-- what a value tells at its place
abbrev pub place_items : Side → List ℕ → ℕ → Option Held → Option Held → List Members
place_items side text n None beside = []
place_items side text n (Some held) beside = held_items side (joined text (decimal n)) held beside

abbrev pub next_place : Option Attribute → ℕ → ℕ
next_place None n = n
next_place (Some a) n = n + 1

-- ** those that are kept beside a list of values

abbrev pub rest_forest : Bool → Attributes → Forest
rest_forest is_state a =
    forest (list_by (rest_step (codes "other")) (kept_at is_state a) (kept_inside_at is_state a))
