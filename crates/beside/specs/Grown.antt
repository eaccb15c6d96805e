-- What was added.
use Rattle.std.specs.Prelude.{◌≡◌, ℕ, List, ◌++◌}

-- some bytes were added
abbrev pub Grows : List ℕ → List ℕ → Type 0
Grows old new = (added : List ℕ) × (new ≡ old ++ added)
