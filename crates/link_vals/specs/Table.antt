-- Values and their numbers.
use Rattle.std.specs.Prelude.{ℕ, ◌==◌, if◌then◌else◌, List, [], ◌∷◌}

-- the first of these values that has this number, else the other one
abbrev pub value_of : {A : Type 0} → (A → ℕ) → List A → A → ℕ → A
value_of number [] other n = other
value_of number (v ∷ vs) other n = if n == number v then v else value_of number vs other n
