-- What payloads mean: numbers, texts, bytes and records.
use Rattle.std.specs.Prelude.{◌≡◌, ◌≢◌, ℕ, ◌<◌, ◌≤◌, ◌==◌, nat_lt, ℤ, List, [], ◌∷◌, ◌++◌, ◌⊎◌, length, if◌then◌else◌}
use Rattle.std.specs.Prelude.{IsUtf8, Result, Ok, Err}
use Rattle.std.specs.Int.{Width, byte_len, from_le_bytes, cast_signed}
use Rattle.std.specs.List.{AllByRecursion}
use Rattle.std.specs.Str.{is_utf8}
use Rattle.std.specs.Net.Addr.{segments_of}
use Rattle.std.specs.declared.net.ipv6_addr.Ipv6Addr.{Ipv6Addr}
use Rattle.nla_wire.specs.Grammar.{Grammar, as_a}
use Rattle.nla_wire.specs.declared.error.Cause.{Cause}
use Rattle.nla_wire.specs.declared.error.Cause.TheVariants.{WrongLength, NotUtf8, TooShort}

unfoldable pub read_number : Width → List ℕ → Result ℕ Cause
read_number w p = if length p == byte_len w then Ok (from_le_bytes w p) else Err (WrongLength (length p) (byte_len w))

-- a number of exactly this width, lowest byte first
abbrev pub number_of : Width → Grammar (List ℕ) ℕ
number_of w = record {
  means = λ p n. (length p ≡ byte_len w) × (n ≡ from_le_bytes w p);
  bad = λ p c. (length p ≢ byte_len w) × (c ≡ WrongLength (length p) (byte_len w));
  reads = read_number w;
}

-- the payload itself
abbrev pub bytes : Grammar (List ℕ) (List ℕ)
bytes = record { means = λ p v. v ≡ p; bad = λ p c. ⊥; reads = λ p. Ok p }

unfoldable pub read_exactly : ℕ → List ℕ → Result (List ℕ) Cause
read_exactly n p = if length p == n then Ok p else Err (WrongLength (length p) n)

-- exactly n bytes
abbrev pub exactly : ℕ → Grammar (List ℕ) (List ℕ)
exactly n = record {
  means = λ p v. (length p ≡ n) × (v ≡ p);
  bad = λ p c. (length p ≢ n) × (c ≡ WrongLength (length p) n);
  reads = read_exactly n;
}

abbrev pub EndsInNul : List ℕ → Type 0
EndsInNul p = (s : List ℕ) × (p ≡ s ++ 0 ∷ [])

-- p is s and one NUL, or doesn't end in a NUL and is s
abbrev pub IsTextOf : List ℕ → List ℕ → Type 0
IsTextOf p s = (p ≡ s ++ 0 ∷ []) ⊎ ((EndsInNul p → ⊥) × (p ≡ s))

-- p with one NUL at its end dropped, if it has one
abbrev pub without_nul : List ℕ → List ℕ
without_nul [] = []
without_nul (x ∷ []) = if x == 0 then [] else x ∷ []
without_nul (x ∷ y ∷ p) = x ∷ without_nul (y ∷ p)

unfoldable pub read_text : List ℕ → Result (List ℕ) Cause
read_text p = if is_utf8 (without_nul p) then Ok (without_nul p) else Err NotUtf8

-- each byte is below 128
abbrev pub AreAscii : List ℕ → Type 0
AreAscii bytes = AllByRecursion (λ b. b < 128) bytes

-- a text, which may end in one NUL
abbrev pub text : Grammar (List ℕ) (List ℕ)
text = record {
  means = λ p s. IsUtf8 s × IsTextOf p s;
  bad = λ p c. ((s : List ℕ) → IsTextOf p s → IsUtf8 s → ⊥) × (c ≡ NotUtf8);
  reads = read_text;
}

-- a record that is filled up with zeros where the payload is short
abbrev pub filled : {A : Type 0} → (List ℕ → A) → Grammar (List ℕ) A
filled fields = record { means = λ p a. a ≡ fields p; bad = λ p c. ⊥; reads = λ p. Ok (fields p) }

unfoldable pub read_sized : {A : Type 0} → ℕ → (List ℕ → A) → List ℕ → Result A Cause
read_sized size fields p = if nat_lt (length p) size then Err (TooShort (length p) size) else Ok (fields p)

-- a record that is refused where the payload is short
abbrev pub sized : {A : Type 0} → ℕ → (List ℕ → A) → Grammar (List ℕ) A
sized size fields = record {
  means = λ p a. (size ≤ length p) × (a ≡ fields p);
  bad = λ p c. (length p < size) × (c ≡ TooShort (length p) size);
  reads = read_sized size fields;
}

-- a signed number of exactly this width
abbrev pub signed_of : Width → Grammar (List ℕ) ℤ
signed_of w = as_a (cast_signed w) (number_of w)

-- the address with these sixteen octets
abbrev pub address_of_octets : List ℕ → Ipv6Addr
address_of_octets octets = record { segments = segments_of octets }

-- an IPv6 address: exactly its sixteen octets, in order
abbrev pub ipv6_address : Grammar (List ℕ) Ipv6Addr
ipv6_address = as_a address_of_octets (exactly 16)
