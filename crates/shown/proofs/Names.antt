-- The names of numbers.
use Rattle.std.proofs.Common.{◌≡◌, ℕ, Bool, true, false, cond, List, [], ◌∷◌, refl, sym, ap, ◌∙◌, Bor}
use Rattle.std.specs.Prelude.{◌==◌, map, Option, Some, option_map}
use Rattle.std.specs.List.{find}
use Rattle.shown.specs.Values.{name_in_row, named_number}

-- a row as it is passed, and its name
abbrev pub row_of : ℕ × Bor (List ℕ) → ℕ × List ℕ
row_of row = (row.0, row.1.now)

picked : (b : Bool) (row : ℕ × Bor (List ℕ)) (found : Option (ℕ × List ℕ)) (passed : Option (ℕ × Bor (List ℕ)))
    → found ≡ option_map row_of passed
    → cond b (Some (row_of row)) found ≡ option_map row_of (cond b (Some row) passed)
picked true row found passed e = refl
picked false row found passed e = e

find_row : (table : List (ℕ × Bor (List ℕ))) (value : ℕ)
    → find (λ row. row.0 == value) (map row_of table) ≡ option_map row_of (find (λ row. row.0 == value) table)
find_row [] value = refl
find_row (row ∷ table) value =
    picked (row.0 == value) row (find (λ r. r.0 == value) (map row_of table)) (find (λ r. r.0 == value) table)
    (find_row table value)

pub number_named : (table : List (ℕ × Bor (List ℕ))) (value : ℕ) (row : Option (ℕ × Bor (List ℕ)))
    → row ≡ find (λ r. r.0 == value) table
    → name_in_row (option_map row_of row) value ≡ named_number (map row_of table) value
number_named table value row is =
    ap (λ (r : Option (ℕ × List ℕ)). name_in_row r value) (ap (option_map row_of) is ∙ sym (find_row table value))
