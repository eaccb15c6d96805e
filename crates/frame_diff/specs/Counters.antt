-- What of a message a state passes over, by the table of `link_state`: attributes of a number, or fields of a record.
use Rattle.std.specs.Prelude.{ℕ, ◌+◌, ◌&&◌, List, [], ◌∷◌, ◌++◌, Bool, true, false, Option, Some, None, cond, nat_le}
use Rattle.std.specs.Prelude.{nat_lt}
use Rattle.link_info.specs.declared.place.Place.{Place}
use Rattle.link_info.specs.declared.place.Place.TheVariants as Places
use Rattle.link_state.specs.Table.{Action, action_of}
use Rattle.link_state.specs.declared.kind.Kind.TheVariants as Kinds
use Rattle.link_state.specs.declared.level.Level.{Level}
use Rattle.link_state.specs.declared.level.Level.TheVariants as Levels
use Rattle.link_vals.specs.AddressFamilyTable.{address_family_of}
use Rattle.shown.specs.Drafts.{Members}
use Rattle.frame_shown.specs.declared.form.List.{List as Shape}
use Rattle.frame_shown.specs.declared.form.List.TheVariants as Shapes
use Rattle.frame_shown.specs.declared.form.Table.{Table}
use Rattle.frame_shown.specs.declared.form.Table.TheVariants as Tables

-- the rows of the table for a list, where it has any; where a state clears something, those of a link's kinds do not
-- depend on the kinds, nor those of attributes that are refused on the family
abbrev pub place_level : Place → Option Level
place_level Places.Bridge = Some Levels.Bridge
place_level Places.BridgeQuerier = Some Levels.Querier
place_level Places.BridgePort = Some Levels.BridgePort
place_level Places.BondSlave = Some Levels.BondPort
place_level Places.Can = Some Levels.Can
place_level Places.Hsr = Some Levels.Hsr
place_level Places.Inet6 = Some Levels.Inet6
place_level _ = None

abbrev pub table_level : Table → Option Level
table_level Tables.Families = Some Levels.Families
table_level Tables.Inet6 = Some Levels.Inet6
table_level Tables.Function = Some Levels.Function
table_level Tables.FunctionStats = Some Levels.FunctionStats
table_level _ = None

abbrev pub level_in : Shape → Option Level
level_in (Shapes.Message family) = Some (Levels.Message (address_family_of family))
level_in (Shapes.Own table) = table_level table
level_in (Shapes.Listed group table) = None
level_in (Shapes.Entries group) = None
level_in (Shapes.Of place) = place_level place
level_in Shapes.ProtoInet6 = Some Levels.Inet6
level_in (Shapes.Info link port) = Some (Levels.Info Kinds.Other Kinds.Other)
level_in Shapes.Refused = Some (Levels.Message (address_family_of 0))

abbrev pub action_at : Option Level → ℕ → Action
action_at None n = Action.Keep
action_at (Some level) n = action_of level n

-- what becomes of the attributes of a number: in a state what the table says; else they are kept
abbrev pub action_in : Bool → Shape → ℕ → Action
action_in false list n = Action.Keep
action_in true list n = action_at (level_in list) n

-- its payload moves by itself
abbrev pub is_clear : Action → Bool
is_clear Action.Clear = true
is_clear Action.Keep = false
is_clear (Action.ClearPart from to) = false
is_clear (Action.Enter level) = false
is_clear Action.EnterInfo = false

abbrev pub is_passed : Bool → Shape → ℕ → Bool
is_passed is_state list n = is_clear (action_in is_state list n)

-- the field at this place moves by itself
abbrev pub clears_at : Action → ℕ → Bool
clears_at (Action.ClearPart from to) place = nat_le from place && nat_lt place to
clears_at Action.Clear place = false
clears_at Action.Keep place = false
clears_at (Action.Enter level) place = false
clears_at Action.EnterInfo place = false

-- the fields of a record without those, by the size of each
abbrev pub fields_left : Action → ℕ → List ℕ → Members → Members
fields_left action place [] ms = ms
fields_left action place (size ∷ sizes) [] = []
fields_left action place (size ∷ sizes) (m ∷ ms) =
    cond (clears_at action place) [] (m ∷ []) ++ fields_left action (place + size) sizes ms
