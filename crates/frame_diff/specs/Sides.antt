-- The two messages that are compared.
use Rattle.std.specs.Prelude.{ℕ, Bool, List, codes, false, true}
use Rattle.frame_diff.specs.declared.side.Side.{Side}
use Rattle.frame_diff.specs.declared.side.Side.TheVariants.{Old, New, Moved}

-- lists in another order are told, and nothing else
abbrev pub is_moved : Side → Bool
is_moved Old = false
is_moved New = false
is_moved Moved = true

abbrev pub side_name : Side → List ℕ
side_name Old = codes "old"
side_name New = codes "new"
side_name Moved = codes "old"
