-- The attribute that stands beside one: the last one of its name.
use Rattle.nla_wire.specs.Frames.{Frame, number}
use Rattle.frame_shown.specs.Tables.{row_in}
use Rattle.frame_shown.specs.declared.form.List.{List as Shape}
use Rattle.frame_diff.specs.Counters.{action_in}
use Rattle.frame_diff.specs.Forests.{Held}
use Rattle.frame_diff.specs.Members.{Reading, held_by}
pub use Rattle.frame_diff.specs.Named.{is_named, last_named}

-- what it holds
abbrev pub held_of : Reading → Shape → Frame → Held
held_of r list f =
    held_by r (action_in r.is_state list (number f)) (row_in r.around list (number f)).1 f.payload
