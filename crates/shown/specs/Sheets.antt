-- The text of tokens, in the first bytes of a buffer.
use Rattle.std.specs.Prelude.{◌≡◌, ℕ, ◌≤◌, Bool, List, [], ◌∷◌, ◌++◌, length, take, cond, Result, MatchResult}
use Rattle.json.specs.Token.{Token}
use Rattle.shown.specs.Print.{print, ends_value, ArePrintable}

-- the bytes are the text of some tokens; whether the last of them ends a value
pub record IsText (text : List ℕ) (after_value : Bool) : Type 0 where
  pub printed : List Token
  pub printable : ArePrintable printed
  pub says : text ≡ print printed
  pub place : after_value ≡ ends_value printed

-- the first bytes of a buffer are as they were
abbrev pub Keeps : List ℕ → List ℕ → ℕ → Type 0
Keeps old new len = (take len new ≡ take len old) × (len ≤ length new)

-- a piece stands behind the first bytes of a buffer, and ends there
pub record Adds (old new : List ℕ) (len : ℕ) (piece : List ℕ) (end : ℕ) : Type 0 where
  pub bytes : take end new ≡ take len old ++ piece
  pub within : end ≤ length new

-- a piece was added, or the first bytes are as they were
abbrev pub Added : {E : Type 0} → Result ℕ E → List ℕ → List ℕ → ℕ → List ℕ → Type 0
Added result old new len piece = MatchResult result (Adds old new len piece) (λ _. Keeps old new len)

-- the comma before a piece, where one is due
abbrev pub comma_if : Bool → List ℕ
comma_if is_due = cond is_due (44 ∷ []) []
