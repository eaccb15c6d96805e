-- The members of a message are what is shown of it.
use Rattle.std.specs.Prelude.{◌≡◌, ℕ, false, List, [], ◌∷◌}
use Rattle.std.specs.List.{AllByRecursion}
use Rattle.nla_wire.specs.Items.{items}
use Rattle.link_info.specs.Rows.{AreAllRows}
use Rattle.link_info.specs.Tables.{frames_in}
use Rattle.shown.specs.Drafts.{Members}
use Rattle.frame_shown.specs.Frames.{items_in, levels}
use Rattle.frame_shown.specs.Messages.{message_members}
use Rattle.frame_shown.specs.Items.{Lists, members_of}
use Rattle.frame_shown.specs.Tables.{is_kept, lists_in, row_in}
use Rattle.frame_shown.specs.declared.form.Around.{Around}
use Rattle.frame_shown.specs.declared.form.List.{List as Shape}
use Rattle.frame_diff.specs.Forests.{Forest, forest, is_text}
use Rattle.frame_diff.specs.Items.{step_text}
use Rattle.frame_diff.specs.Members.{fields, members_in, message_forest, reading, whole}

-- as they stand in an object
abbrev pub shown_in : Forest → Members
shown_in Forest.none = []
shown_in Forest.passed = []
shown_in (Forest.vlans runs) = []
shown_in (Forest.texts vs) = []
shown_in (Forest.tree s v i rest) = (step_text s, v) ∷ shown_in rest

-- no two lists of values have one name
abbrev pub AreListsApart : Lists → Type 0
AreListsApart [] = Unit {0}
AreListsApart (l ∷ lists) = AllByRecursion (λ m. is_text m.1 l.1 ≡ false) lists × AreListsApart lists

-- no two numbers of a list are shown under one name
abbrev pub AreNumbersApart : Around → Shape → Type 0
AreNumbersApart cx list = (m n : ℕ) (p q : List ℕ)
    → is_kept (row_in cx list m).1 p ≡ false → is_kept (row_in cx list n).1 q ≡ false
    → (row_in cx list m).0 ≡ (row_in cx list n).0
    → m ≡ n

-- nor are two lists of values
pub record HasNamesApart (cx : Around) (list : Shape) : Type 0 where
  pub numbers : AreNumbersApart cx list
  pub lists : AreListsApart (lists_in cx list)

-- no two fields have one name
abbrev pub AreNamedApart : Members → Type 0
AreNamedApart [] = Unit {0}
AreNamedApart (m ∷ ms) = AllByRecursion (λ n. is_text n.0 m.0 ≡ false) ms × AreNamedApart ms

-- what is shown of a list of attributes, and of the fields of a record, is their members
pub record MembersAreShown : Type 0 where
  pub lists : (n : ℕ) (cx : Around) (list : Shape) (p : List ℕ) → HasNamesApart cx list
      → shown_in (forest (members_in (reading n false cx) list (frames_in (items p))))
      ≡ members_of (lists_in cx list) (items_in (levels n cx) cx list (items p))
  pub fields_of : (ms : Members) → AreNamedApart ms → shown_in (fields ms) ≡ ms

-- what is compared of a message of which all attributes are accepted is what is shown of it
abbrev pub WholeIsShown : Type 0
WholeIsShown = (cx : Around) (bytes : List ℕ) → AreAllRows cx.tables.now
    → shown_in (message_forest false cx (whole bytes)) ≡ message_members cx bytes
