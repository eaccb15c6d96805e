-- Fields of fixed records: numbers at places of a payload that has zeros after it, and the bytes of a record's fields.
use Rattle.std.specs.Prelude.{◌≡◌, ℕ, zero, suc, ◌+◌, ◌-◌, ◌<◌, ℤ, List, [], ◌∷◌, ◌++◌, length, slice_index, take}
use Rattle.std.specs.Prelude.{replicate}
use Rattle.std.specs.Int.{Width, byte_len, byte_worth, to_le_bytes, cast_signed, cast_unsigned, sum_through}
use Rattle.std.specs.List.{flat_map}
use Rattle.nla_wire.specs.declared.error.Cause.TheVariants.{TooShort}
use Rattle.nla_wire.specs.declared.error.DecodeError.{DecodeError}

-- the number of this width at this place, lowest byte first, where zeros follow the bytes
unfoldable pub number_at : Width → List ℕ → ℕ → ℕ
number_at w bytes place = sum_through (λ i. byte_worth i (slice_index bytes (place + i))) (byte_len w - 1)

-- the same, highest byte first
unfoldable pub be_number_at : Width → List ℕ → ℕ → ℕ
be_number_at w bytes place =
    sum_through (λ i. byte_worth (byte_len w - 1 - i) (slice_index bytes (place + i))) (byte_len w - 1)

-- the same as a signed number
abbrev pub signed_at : Width → List ℕ → ℕ → ℤ
signed_at w bytes place = cast_signed w (number_at w bytes place)

-- so many numbers of one width, one after the other
abbrev pub numbers_from : Width → List ℕ → ℕ → ℕ → List ℕ
numbers_from w bytes place zero = []
numbers_from w bytes place (suc n) = number_at w bytes place ∷ numbers_from w bytes (place + byte_len w) n

abbrev pub signed_from : Width → List ℕ → ℕ → ℕ → List ℤ
signed_from w bytes place zero = []
signed_from w bytes place (suc n) = signed_at w bytes place ∷ signed_from w bytes (place + byte_len w) n

-- the bytes of numbers of one width
abbrev pub le_all : Width → List ℕ → List ℕ
le_all w ns = flat_map (λ n. to_le_bytes w n) ns

abbrev pub le_all_signed : Width → List ℤ → List ℕ
le_all_signed w ns = flat_map (λ n. to_le_bytes w (cast_unsigned w n)) ns

-- the first n bytes, with zeros after them where there are fewer
unfoldable pub zero_filled : ℕ → List ℕ → List ℕ
zero_filled n bytes = take n bytes ++ replicate (n - length bytes) 0

-- the payload is shorter than the record, and the fault says so
abbrev pub IsShort : List ℕ → ℕ → DecodeError → Type 0
IsShort payload need e = (length payload < need) × (e.cause ≡ TooShort (length payload) need)
