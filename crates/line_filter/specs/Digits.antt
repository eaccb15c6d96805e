-- Hexadecimal digits read by a table of their values.
use Rattle.std.specs.Prelude.{◌≡◌, ℕ, ◌<◌, Bool, nat_lt, if◌then◌else◌, List, slice_index, Option, Some, None, Ok, Err}
use Rattle.std.specs.Bool.{MatchBool}
use Rattle.hex.specs.Hex.{hex_digit_value, decode_of}
use Rattle.hex.specs.declared.error.FromHexError.{FromHexError}

-- a digit's value is below 16, and a byte that is no digit has another number
abbrev pub listed : ℕ → Option ℕ
listed value = if nat_lt value 16 then Some value else None

-- the table has the value of each digit, and of each other byte a number from 16 on
pub record IsTable (table : List ℕ) : Type 0 where
  pub each : (byte : ℕ) → byte < 256 → hex_digit_value byte ≡ listed (slice_index table byte)

-- the digits spell the bytes, or are not all digits
abbrev pub Spells : List ℕ → List ℕ → Bool → Type 0
Spells digits bytes all = MatchBool all (decode_of digits ≡ Ok bytes) ((e : FromHexError) × (decode_of digits ≡ Err e))
