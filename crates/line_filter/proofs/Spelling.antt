-- Digits by a table: one pair, and the table itself.
use Rattle.std.proofs.Common.{◌≡◌, ℕ, zero, suc, ◌+◌, ◌*◌, ◌<◌, ◌≤◌, ◌==◌, ◌&&◌, Bool, true, false, not, List, ◌/◌}
use Rattle.std.proofs.Common.{◌%◌, length, take, drop, slice_index, refl, sym, ap, ◌∙◌, arith, inl, inr}
use Rattle.std.specs.Prelude.{Option, Some, None, Ok, Err, nat_lt}
use Rattle.std.proofs.lemmas.Bool.{and_parts, cases_lt, eqb-true}
use Rattle.hex.specs.Hex.{hex_digit_value, digit_or_error, value_at, pair_value, decode_pairs}
use Rattle.hex.proofs.Pairs.{prepend, decode_done, decode_err}
use Rattle.hex.proofs.HexLemmas.{decode_of-even}
use Rattle.hex.specs.declared.error.FromHexError.{FromHexError}
use Rattle.hex.specs.declared.error.FromHexError.TheVariants.{InvalidHexCharacter}
use Rattle.line_filter.specs.Digits.{listed, IsTable, Spells}

-- ** one pair
pub listed-low : (v : ℕ) → v < 16 → listed v ≡ Some v
listed-low v h = grind arith

listed-high : (v : ℕ) → 16 ≤ v → listed v ≡ None
listed-high v h = grind arith

reads : (table : List ℕ) (c i : ℕ) → IsTable table → c < 256 → slice_index table c < 16
    → value_at c i ≡ Ok (slice_index table c)
reads table c i t within low = ap (digit_or_error c i) (t.each c within ∙ listed-low (slice_index table c) low)

refuses : (table : List ℕ) (c i : ℕ) → IsTable table → c < 256 → 16 ≤ slice_index table c
    → value_at c i ≡ Err (InvalidHexCharacter c i)
refuses table c i t within high = ap (digit_or_error c i) (t.each c within ∙ listed-high (slice_index table c) high)

pub pair_reads : (table : List ℕ) (a b i : ℕ) → IsTable table → a < 256 → b < 256 → slice_index table a < 16
    → slice_index table b < 16
    → pair_value a b i ≡ Ok (slice_index table a * 16 + slice_index table b)
pair_reads table a b i t ha hb la lb =
    let first = reads table a i t ha la in
    let second = reads table b (i + 1) t hb lb in
    rw (first, second) refl

pub pair_refuses_first : (table : List ℕ) (a b i : ℕ) → IsTable table → a < 256 → 16 ≤ slice_index table a
    → pair_value a b i ≡ Err (InvalidHexCharacter a i)
pair_refuses_first table a b i t ha high =
    let first = refuses table a i t ha high in
    rw first refl

pub pair_refuses_second : (table : List ℕ) (a b i : ℕ) → IsTable table → a < 256 → b < 256 → slice_index table a < 16
    → 16 ≤ slice_index table b
    → pair_value a b i ≡ Err (InvalidHexCharacter b (i + 1))
pair_refuses_second table a b i t ha hb low high =
    let first = reads table a i t ha low in
    let second = refuses table b (i + 1) t hb high in
    rw (first, second) refl

pub spells_all : (digits bytes : List ℕ) (i : ℕ) → length digits % 2 ≡ 0 → length bytes ≡ length digits / 2
    → length bytes ≤ i
    → decode_pairs 0 digits ≡ prepend (take i bytes) (decode_pairs (2 * i) (drop (2 * i) digits))
    → Spells digits bytes true
spells_all digits bytes i even room end h = decode_of-even digits even ∙ decode_done digits bytes i end (omega arith) h

pub spells_none : (digits bytes : List ℕ) (i : ℕ) (e : FromHexError) → length digits % 2 ≡ 0 → 2 * i + 1 < length digits
    → pair_value (slice_index digits (2 * i)) (slice_index digits (2 * i + 1)) (2 * i) ≡ Err e
    → decode_pairs 0 digits ≡ prepend (take i bytes) (decode_pairs (2 * i) (drop (2 * i) digits))
    → Spells digits bytes false
spells_none digits bytes i e even fits bad h = (e, decode_of-even digits even ∙ decode_err digits bytes i e fits bad h)

-- ** the table
abbrev pub agrees : Option ℕ → ℕ → Bool
agrees (Some w) v = (w == v) && nat_lt v 16
agrees None v = not (nat_lt v 16)

abbrev pub all_agree : (ℕ → ℕ) → ℕ → Bool
all_agree value zero = true
all_agree value (suc n) = agrees (hex_digit_value n) (value n) && all_agree value n

agrees-listed : (o : Option ℕ) (v : ℕ) → agrees o v ≡ true → o ≡ listed v
agrees-listed (Some w) v h =
    let parts = and_parts (w == v) (nat_lt v 16) h in
    let same : w ≡ v = eqb-true w v parts.0 in
    rw (parts.1, same) refl
agrees-listed None v h = sym (listed-high v (grind arith))

pub all_agree-at : (value : ℕ → ℕ) (n k : ℕ) → all_agree value n ≡ true → k < n
    → hex_digit_value k ≡ listed (value k)
all_agree-at value zero k h lt = absurd (omega arith)
all_agree-at value (suc n) k h lt =
    let parts = and_parts (agrees (hex_digit_value n) (value n)) (all_agree value n) h in
    elim (cases_lt k n) [
      | inl below ↦ all_agree-at value n k parts.1 below
      | inr top ↦
          let e : k ≡ n = omega arith in
          rw e (agrees-listed (hex_digit_value n) (value n) parts.0)
    ]

pub IsTable-from_test : (table : List ℕ) → all_agree (slice_index table) 256 ≡ true → IsTable table
IsTable-from_test table h = record { each = λ byte within. all_agree-at (slice_index table) 256 byte h within }
