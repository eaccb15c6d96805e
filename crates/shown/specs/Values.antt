-- What values are written as.
use Rattle.std.specs.Prelude.{ℕ, ◌/◌, ◌%◌, ◌==◌, ◌++◌, List, [], ◌∷◌, get_or, map, slice_index, codes, decimal}
use Rattle.std.specs.Prelude.{cond, not, bit_and, Option, Some, None}
use Rattle.std.specs.Int.{bit_not, w64}
use Rattle.std.specs.List.{find, fold, filter, join_by}
use Rattle.hex.specs.Hex.{lower_digits}
use Rattle.json.specs.Token.{Token, string, number}
use Rattle.shown.specs.Drafts.{list_of}

-- an octet's two digits
abbrev pub octet_text : ℕ → List ℕ
octet_text octet = slice_index lower_digits (octet / 16) ∷ slice_index lower_digits (octet % 16) ∷ []

-- a number, with its name
abbrev pub numbered : List ℕ → ℕ → List ℕ × List Token
numbered name value = (name, number (decimal value) ∷ [])

-- a hardware address, with a colon between each two octets
abbrev pub hardware_address : List ℕ → List ℕ
hardware_address octets = join_by octet_text (codes ":") octets

-- a name where there is one, and else the number
abbrev pub name_else_number : List ℕ → ℕ → Token
name_else_number [] value = number (decimal value)
name_else_number (x ∷ name) value = string (x ∷ name)

-- the name at the number's place in a table, or the number where none is there
abbrev pub name_or_number : List (List ℕ) → ℕ → Token
name_or_number names value = name_else_number (get_or names value []) value

-- a table of numbers or bits and their names
abbrev pub BitNames : Type 0
BitNames = List (ℕ × List ℕ)

-- the name of a row, or the number where there is no row
abbrev pub name_in_row : Option (ℕ × List ℕ) → ℕ → Token
name_in_row None value = number (decimal value)
name_in_row (Some row) value = string row.1

-- the name of the first row that has the number, or the number where none has
abbrev pub named_number : BitNames → ℕ → Token
named_number table value = name_in_row (find (λ row. row.0 == value) table) value

-- the names of the bits that are set, in the table's order
abbrev pub names_set : BitNames → ℕ → List (List ℕ)
names_set table bits = map (λ row. row.1) (filter (λ row. not (bit_and bits row.0 == 0)) table)

-- the bits that have no name in the table
abbrev pub bits_unnamed : BitNames → ℕ → ℕ
bits_unnamed table bits = fold (λ left row. bit_and left (bit_not w64 row.0)) bits table

-- a number where it is not 0
abbrev pub unless_zero : ℕ → List Token
unless_zero value = cond (value == 0) [] (number (decimal value) ∷ [])

-- flags: a list of the names of the bits that are set, and a number of those without a name
abbrev pub flags_of : BitNames → ℕ → List Token
flags_of table bits = list_of (map string (names_set table bits) ++ unless_zero (bits_unnamed table bits))
