-- With the rows of `link_info` no two numbers of a list are shown under one name, so the members of a list are what is
-- shown of it.
use Rattle.std.specs.Prelude.{◌≡◌, ℕ, false, List}
use Rattle.nla_wire.specs.Items.{items}
use Rattle.link_info.specs.Rows.{AreAllRows}
use Rattle.link_info.specs.Tables.{frames_in}
use Rattle.frame_shown.specs.Frames.{items_in, levels}
use Rattle.frame_shown.specs.Items.{members_of}
use Rattle.frame_shown.specs.Tables.{lists_in}
use Rattle.frame_shown.specs.declared.form.Around.{Around}
use Rattle.frame_shown.specs.declared.form.List.{List as Shape}
use Rattle.frame_diff.specs.Forests.{forest}
use Rattle.frame_diff.specs.Members.{members_in, reading}
use Rattle.frame_diff.specs.Shown.{HasNamesApart, shown_in}

pub record NamesAreApart : Type 0 where
  pub apart : (cx : Around) (list : Shape) → AreAllRows cx.tables.now → HasNamesApart cx list
  pub shown : (n : ℕ) (cx : Around) (list : Shape) (p : List ℕ) → AreAllRows cx.tables.now
      → shown_in (forest (members_in (reading n false cx) list (frames_in (items p))))
      ≡ members_of (lists_in cx list) (items_in (levels n cx) cx list (items p))
