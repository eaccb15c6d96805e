-- Names that stand in a text as they are.
use Rattle.std.specs.Prelude.{◌≡◌, ℕ, Bool, true, not, ◌&&◌, List, [], ◌∷◌}
use Rattle.shown.specs.Escapes.{may_escape}

-- none of its bytes may need an escape
abbrev pub is_key : List ℕ → Bool
is_key [] = true
is_key (x ∷ xs) = not (may_escape x) && is_key xs

abbrev pub IsKey : List ℕ → Type 0
IsKey name = is_key name ≡ true

-- each name of a table is one
abbrev pub are_keys : List (List ℕ) → Bool
are_keys [] = true
are_keys (x ∷ xs) = is_key x && are_keys xs

abbrev pub AreKeys : List (List ℕ) → Type 0
AreKeys names = are_keys names ≡ true
