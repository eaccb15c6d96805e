-- Lists that attributes are the values of, each beside that of its name.
use Rattle.std.specs.Prelude.{ℕ, ◌==◌, ◌&&◌, List, [], ◌∷◌, Bool, true, false, Option, Some, cond}
use Rattle.std.specs.List.{list_any}
use Rattle.nla_wire.specs.Frames.{Frame, number}
use Rattle.nla_wire.specs.Items.{items}
use Rattle.link_info.specs.Tables.{frames_in}
use Rattle.link_info.specs.declared.style.Row.{Row}
use Rattle.frame_shown.specs.Tables.{is_each, is_listed, row_in}
use Rattle.frame_shown.specs.declared.form.Around.{Around}
use Rattle.frame_shown.specs.declared.form.List.{List as Shape}
use Rattle.frame_shown.specs.declared.form.List.TheVariants as Shapes
use Rattle.frame_diff.specs.Forests.{Member, is_text}
use Rattle.frame_diff.specs.Members.{arrays_in}
use Rattle.frame_diff.specs.Walked.{Holding, Showing, reading_at}
use Rattle.frame_diff.specs.declared.walk.Attributes.{Attributes}

abbrev pub arrays_at : Showing → Holding → Bool → Attributes → List Member
arrays_at nest inner is_state list =
    arrays_in (reading_at nest inner is_state list.around.now) list.list (frames_in (items list.bytes.now))

-- a list of attributes has rows of link data
abbrev pub has_data : Shape → Bool
has_data (Shapes.Of place) = true
has_data Shapes.ProtoInet6 = true
has_data (Shapes.Message family) = false
has_data (Shapes.Own table) = false
has_data (Shapes.Listed group table) = false
has_data (Shapes.Entries group) = false
has_data Shapes.Refused = false
has_data (Shapes.Info link port) = false

-- an attribute is a value of the list of a number
abbrev pub is_value_of : Around → Shape → ℕ → Frame → Bool
is_value_of cx list n f = number f == n && is_each (row_in cx list (number f)).1

abbrev pub has_values : Around → Shape → List Frame → ℕ → Bool
has_values cx list fs n = list_any (is_value_of cx list n) fs

-- a row is of a list of this name that has a value
abbrev pub is_array : Around → Shape → List Frame → List ℕ → Row → Bool
is_array cx list fs name row = is_listed row.2 && (is_text row.1.now name && has_values cx list fs row.0)

-- the number of the last one, or one before
abbrev pub last_array : Around → Shape → List Frame → List ℕ → Option ℕ → List Row → Option ℕ
last_array cx list fs name before [] = before
last_array cx list fs name before (row ∷ rows) =
    last_array cx list fs name (cond (is_array cx list fs name row) (Some row.0) before) rows
