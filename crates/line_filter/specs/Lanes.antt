-- Hexadecimal digits, many at a time.
use Rattle.std.specs.Prelude.{◌≡◌, ℕ, ◌+◌, ◌*◌, ◌<◌, List, ◌++◌, take, drop, length, slice_index, Ok}
use Rattle.hex.specs.Hex.{hex_digit_value, pair_value, lower_digits, encode_lower}
use Rattle.line_filter.specs.Digits.{listed}

-- each of the first n lanes has the value of its digit, or a number from 16 on where it has none
abbrev pub Reads : ℕ → List ℕ → List ℕ → Type 0
Reads n digits values = (k : ℕ) → k < n → hex_digit_value (slice_index digits k) ≡ listed (slice_index values k)

-- each of the first n lanes has the digit of its value
abbrev pub Spelled : ℕ → List ℕ → List ℕ → Type 0
Spelled n values digits = (k : ℕ) → k < n → slice_index digits k ≡ slice_index lower_digits (slice_index values k)

-- sixteen bytes were put to a place, as the digits from another place on spell them
pub record Decoded (digits : List ℕ) (at : ℕ) (old new : List ℕ) (to : ℕ) : Type 0 where
  pub bytes : List ℕ
  pub sixteen : length bytes ≡ 16
  pub stored : take (to + 16) new ≡ take to old ++ bytes
  pub each : (i j : ℕ) → j < 16
      → pair_value (slice_index digits (at + 2 * j)) (slice_index digits (at + (2 * j + 1))) i
      ≡ Ok (slice_index bytes j)

-- the digits of sixteen bytes from one place on were put to another
abbrev pub Encoded : List ℕ → ℕ → List ℕ → List ℕ → ℕ → Type 0
Encoded bytes at old new to = take (to + 32) new ≡ take to old ++ encode_lower (take 16 (drop at bytes))
