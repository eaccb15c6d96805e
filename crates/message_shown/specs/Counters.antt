-- Numbers that may be below zero.
use Rattle.std.specs.Prelude.{ℤ, ℕ, List}
use Rattle.json.specs.Token.{Token}
use Rattle.frame_shown.specs.Values.{signed_value}

-- a number that may be below zero, with its name
abbrev pub signed : List ℕ → ℤ → List ℕ × List Token
signed name value = (name, signed_value value)
