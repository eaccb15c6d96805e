-- Attributes that have a name, and the last one of a name.
use Rattle.std.specs.Prelude.{ℕ, ◌&&◌, ◌||◌, List, [], ◌∷◌, Bool, Option, Some, cond, not}
use Rattle.nla_wire.specs.Frames.{Frame, number}
use Rattle.frame_shown.specs.Tables.{is_each, is_kept, row_in}
use Rattle.frame_shown.specs.declared.form.Around.{Around}
use Rattle.frame_shown.specs.declared.form.List.{List as Shape}
use Rattle.frame_shown.specs.declared.form.Way.{Way}
use Rattle.frame_diff.specs.Forests.{is_text}

-- it has no name of its own: it is kept as it is, or a value of a list
abbrev pub is_unnamed : Way → List ℕ → Bool
is_unnamed way p = is_kept way p || is_each way

-- an attribute is told under this name
abbrev pub is_named : Around → Shape → List ℕ → Frame → Bool
is_named cx list name f =
    not (is_unnamed (row_in cx list (number f)).1 f.payload) && is_text (row_in cx list (number f)).0 name

-- the last one, or one before
abbrev pub last_named : Around → Shape → List ℕ → Option Frame → List Frame → Option Frame
last_named cx list name before [] = before
last_named cx list name before (f ∷ fs) =
    last_named cx list name (cond (is_named cx list name f) (Some f) before) fs
