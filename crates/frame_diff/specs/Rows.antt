-- Fields of records, as they are shown, and what a payload holds beside its bytes.
use Rattle.std.specs.Prelude.{ℕ, ◌&&◌, List, [], ◌∷◌, ◌++◌, Bool, true, false, Option, None, Some, cond, drop, map}
use Rattle.json.specs.Token.{Token}
use Rattle.link_state.specs.Table.{Action}
use Rattle.link_state.specs.declared.level.Level.{Level}
use Rattle.link_state.specs.declared.level.Level.TheVariants as Levels
use Rattle.shown.specs.Drafts.{Members}
use Rattle.frame_shown.specs.Values.{hexadecimal}
use Rattle.frame_shown.specs.declared.form.Around.{Around}
use Rattle.frame_diff.specs.Forests.{Forest, field_step, find, is_text, left_of}
use Rattle.frame_diff.specs.Members.{Inner, fields, named, slots_shown}
use Rattle.frame_diff.specs.Values.{value_shown}
use Rattle.frame_diff.specs.Walked.{last_items}
use Rattle.frame_diff.specs.declared.counters.Cleared.{Cleared}
use Rattle.frame_diff.specs.declared.held.Holds.{Holds}
use Rattle.frame_diff.specs.declared.held.Holds.TheVariants as Holdings
use Rattle.frame_diff.specs.declared.leaf.Value.{Value}
use Rattle.frame_diff.specs.declared.rows.Row.{Row}
use Rattle.frame_diff.specs.declared.side.Side.TheVariants.{Old}

-- a field under its name: its value never holds a list of attributes
abbrev pub row_shown : Around → Row → List ℕ × List Token
row_shown cx row = (row.name.now, value_shown (λ list p. hexadecimal p) cx row.value)

-- the members inside a payload
abbrev pub inside_by : Inner → Around → Holds → Forest
inside_by inner cx Holdings.Nothing = Forest.none
inside_by inner cx Holdings.Passed = Forest.passed
inside_by inner cx (Holdings.Slots slots) = Forest.texts (slots_shown slots.value.plain slots.value.bytes.now)
inside_by inner cx (Holdings.Fields rows is_any) = left_of is_any (named (map (row_shown cx) rows.items))
inside_by inner cx (Holdings.List list p) = inner list p.now

-- values that are their own keys
abbrev pub is_slots : Holds → Bool
is_slots Holdings.Nothing = false
is_slots Holdings.Passed = false
is_slots (Holdings.Slots slots) = true
is_slots (Holdings.Fields rows is_any) = false
is_slots (Holdings.List list p) = false

-- what becomes of a payload of which a part is cleared, or none
abbrev pub clearing : Option Cleared → Action
clearing None = Action.Keep
clearing (Some part) = Action.ClearPart part.from part.to

-- of what IPv6 says alone a part of a payload is cleared
abbrev pub is_inet6 : Option Level → Bool
is_inet6 (Some Levels.Inet6) = true
is_inet6 _ = false

-- ** for the calls that go over fields

abbrev pub is_under : List ℕ → Row → Bool
is_under name row = is_text row.name.now name

-- the value of the last one of a name, or one before
abbrev pub last_value : List ℕ → Option Value → List Row → Option Value
last_value name before [] = before
last_value name before (row ∷ rows) = last_value name (cond (is_under name row) (Some row.value) before) rows

-- ** records with the same names

abbrev pub first_row : List Row → Option Row
first_row [] = None
first_row (row ∷ rows) = Some row

abbrev pub is_first : List ℕ → Option Row → Bool
is_first name None = false
is_first name (Some row) = is_text row.name.now name

abbrev pub is_none : List Row → Bool
is_none [] = true
is_none (row ∷ rows) = false

abbrev pub have_same_names : List Row → List Row → Bool
have_same_names [] others = is_none others
have_same_names (row ∷ rows) others = is_first row.name.now (first_row others) && have_same_names rows (drop 1 others)

-- what a field of the old one tells beside those of the new one from its place on
abbrev pub row_beside : Around → Around → List ℕ → Row → List Row → List Row → List Members
row_beside cx theirs text row behind there =
    last_items Old text (named (map (row_shown cx) behind))
    (field_step row.name.now, ((row_shown cx row).1, Forest.none))
    (find (field_step row.name.now) (fields (map (row_shown theirs) there)))

abbrev pub rows_beside : Around → Around → List ℕ → List Row → List Row → List Members
rows_beside cx theirs text [] there = []
rows_beside cx theirs text (row ∷ rows) there =
    row_beside cx theirs text row rows there ++ rows_beside cx theirs text rows (drop 1 there)
