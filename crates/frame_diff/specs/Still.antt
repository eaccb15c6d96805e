-- What is told of a state as a whole does not move by itself.
use Rattle.std.specs.Prelude.{◌≡◌, ℕ, List, Some, true, false}
use Rattle.std.specs.List.{filter}
use Rattle.nla_wire.specs.Frames.{Frame, IsBytes}
use Rattle.nla_wire.specs.Items.{items}
use Rattle.link_info.specs.Rows.{AreAllRows}
use Rattle.link_info.specs.Tables.{frames_in}
use Rattle.frame_shown.specs.Tables.{entry_list}
use Rattle.frame_shown.specs.declared.form.Around.{Around}
use Rattle.frame_shown.specs.declared.form.Group.{Group}
use Rattle.frame_shown.specs.declared.form.List.{List as Shape}
use Rattle.frame_diff.specs.Keys.{key_at}
use Rattle.frame_diff.specs.Members.{members_in, reading, value_with}
use Rattle.frame_diff.specs.Settled.{settled, stands_still}
use Rattle.frame_diff.specs.declared.keys.Key.{Key}

-- an entry is shown by those of its attributes of which a state clears nothing; these, and a value with a label among
-- attributes, are read of a state as of a message: nothing in them is cleared at any depth
pub record WholesStandStill : Type 0 where
  pub left : (list : Shape) (p : List ℕ) → IsBytes p
      → frames_in (items (settled true list p)) ≡ filter (stands_still list) (frames_in (items p))
  pub entry : (n : ℕ) (cx : Around) (group : Group) (p : List ℕ) → AreAllRows cx.tables.now → IsBytes p
      → let list = entry_list group in let fs = frames_in (items (settled true list p)) in
      members_in (reading n true cx) list fs ≡ members_in (reading n false cx) list fs
  pub value : (n m : ℕ) (cx : Around) (list : Shape) (key : Key) (f : Frame) → AreAllRows cx.tables.now
      → key_at (Some m) list ≡ Some key
      → value_with (reading n true cx) list m f ≡ value_with (reading n false cx) list m f
