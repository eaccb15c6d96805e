-- What is stored of a text with its escapes, part after part.
use Rattle.std.specs.Prelude.{◌≡◌, ℕ, ◌+◌, ◌-◌, ◌*◌, ◌<◌, ◌≤◌, ◌==◌, ◌||◌, not, List}
use Rattle.std.specs.Prelude.{[], ◌∷◌, ◌++◌, Bool, true, drop, get_or, nat_lt}
use Rattle.json.specs.Filled.{Placed}
use Rattle.shown.specs.Print.{escape, escape_byte, unseen_in}
use Rattle.shown.specs.Sheets.{Adds}

-- a byte with which something begins that has an escape, or may have one
abbrev pub may_escape : ℕ → Bool
may_escape x =
    nat_lt x 0x20 || (x == 0x22) || (x == 0x5c) || (x == 0x7f) || (x == 0xc2) || (x == 0xd8) || (x == 0xe2)

-- no byte from i up to j is one
abbrev pub PlainBetween : List ℕ → ℕ → ℕ → Type 0
PlainBetween text i j = (k : ℕ) → i ≤ k → k < j → not (may_escape (get_or text k 0)) ≡ true

-- each byte from i up to j stands for itself
abbrev pub SeenBetween : List ℕ → ℕ → ℕ → Type 0
SeenBetween text i j = (k : ℕ) → i ≤ k → k < j
    → (unseen_in (drop k text) ≡ 0) × (escape_byte (get_or text k 0) ≡ get_or text k 0 ∷ [])

-- what a text has from one place up to another, which cuts no character, was stored with its escapes
pub record Escaped (old new : List ℕ) (at end : ℕ) (text : List ℕ) (from to : ℕ) : Type 0 where
  pub piece : List ℕ
  pub placed : Placed old new at piece end
  pub is : escape (drop from text) ≡ piece ++ escape (drop to text)
  pub onwards : from ≤ to
  pub room : end ≤ at + (to - from) * 6

-- the same, added behind the first bytes of a buffer
pub record AddsEscaped (old new : List ℕ) (len end : ℕ) (text : List ℕ) (from to : ℕ) : Type 0 where
  pub piece : List ℕ
  pub adds : Adds old new len piece end
  pub is : escape (drop from text) ≡ piece ++ escape (drop to text)
