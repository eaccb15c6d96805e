-- The text of a set of flags.
use Rattle.std.specs.Prelude.{ℕ, ◌==◌, Bool, true, false, if◌then◌else◌, List, [], ◌∷◌, ◌++◌, codes}
use Rattle.std.specs.Int.RustNames.{bit_and}
use Rattle.std.specs.Fmt.{digits}
use Rattle.std.specs.List.{flat_map, join_by}

-- the names of the rows of which all bits are set, in their order
unfoldable pub names_set : {R : Type 0} → (R → List ℕ) → (R → ℕ) → ℕ → List R → List (List ℕ)
names_set name bits_of bits rows =
    flat_map (λ row. if bit_and bits (bits_of row) == bits_of row then name row ∷ [] else []) rows

-- a number in lower-case hexadecimal
abbrev pub hexadecimal : ℕ → List ℕ
hexadecimal n = codes "0x" ++ digits 16 false n

-- bits without a name as one piece, if there are any
abbrev pub unnamed_piece : ℕ → List (List ℕ)
unnamed_piece rest = if rest == 0 then [] else hexadecimal rest ∷ []

-- pieces with a bar between each two
abbrev pub joined : List (List ℕ) → List ℕ
joined pieces = join_by (λ piece. piece) (codes " | ") pieces

-- the text of bits, where rows name some of them and `unnamed` are the others
unfoldable pub flags_text : {R : Type 0} → (R → List ℕ) → (R → ℕ) → List R → ℕ → ℕ → List ℕ
flags_text name bits_of rows unnamed bits =
    joined (names_set name bits_of bits rows ++ unnamed_piece (bit_and bits unnamed))

-- what stands in front of a piece
abbrev pub bar_unless : Bool → List ℕ
bar_unless is_first = if is_first then [] else codes " | "

abbrev pub is_none : List (List ℕ) → Bool
is_none [] = true
is_none (piece ∷ pieces) = false
