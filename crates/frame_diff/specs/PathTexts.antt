-- The text of a path stands for the path: no two leaves of a message have one text, and no two changes that are told of
-- two messages, of whatever kinds and families these are.
use Rattle.std.specs.Prelude.{◌≡◌, ◌<◌, ◌^◌, Bool, true, List, Some, length, map}
use Rattle.json.specs.Token.{Token}
use Rattle.link_info.specs.Rows.{AreAllRows}
use Rattle.frame_shown.specs.Names.{are_apart}
use Rattle.frame_shown.specs.declared.form.Around.{Around}
use Rattle.frame_diff.specs.Differences.{path_of}
use Rattle.frame_diff.specs.Forests.{Path, leaves, value_at}
use Rattle.frame_diff.specs.Items.{path_text}
use Rattle.frame_diff.specs.Laws.{messages_told}
use Rattle.frame_diff.specs.Members.{Parts, message_forest}

-- by the rows of `link_info`, and of a size that memory has: of a place 64 digits are written at most
abbrev pub IsRead : Around → Parts → Type 0
IsRead cx m = AreAllRows cx.tables.now × (length m.attributes < 2 ^ 64) × (length m.refused < 2 ^ 64)

pub record PathTextsAreApart : Type 0 where
  -- leaves of one text are at one path, in one message and in two
  pub one_path : (is_state : Bool) (cx other : Around) (old new : Parts) → IsRead cx old → IsRead other new
      → (p q : Path) (v w : List Token) → value_at (leaves (message_forest is_state cx old)) p ≡ Some v
      → value_at (leaves (message_forest is_state other new)) q ≡ Some w → path_text p ≡ path_text q
      → p ≡ q
  -- no two leaves of a message have one text
  pub leaves_apart : (is_state : Bool) (cx : Around) (m : Parts) → IsRead cx m
      → are_apart (map (λ l. path_text l.0) (leaves (message_forest is_state cx m))) ≡ true
  -- no two changes have one text
  pub told_apart : (is_state : Bool) (cx other : Around) (old new : Parts) → IsRead cx old → IsRead other new
      → are_apart (map (λ c. path_text (path_of c)) (messages_told is_state cx other old new)) ≡ true
