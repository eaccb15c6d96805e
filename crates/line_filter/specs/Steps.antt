-- What the steps of a run do.
use Rattle.std.specs.Prelude.{◌≡◌, ◌≢◌, ℕ, List, ◌++◌, Option}
use Rattle.std.specs.List.{flat_map, All}
use Rattle.std.specs.Io.KnownBytes.{Appends}
use Rattle.line_filter.specs.Lines.{Relation, with_lf, IsCutShort}
use Rattle.line_filter.specs.declared.error.RunError.{RunError}
use Rattle.line_filter.specs.declared.error.RunError.TheVariants as Errors

abbrev pub NoLf : List ℕ → Type 0
NoLf line = All (λ x. x ≢ 10) line

-- the answer to the line was added
abbrev pub AddsAnswer : Relation → List ℕ → List ℕ → List ℕ → Type 0
AddsAnswer is line old new = (answer : List ℕ) × is line answer × (new ≡ old ++ with_lf answer)

-- some of the bytes that waited were written, and the others still wait
abbrev pub Sends : Option (List ℕ) → Option (List ℕ) → List ℕ → List ℕ → Type 0
Sends held held_after waiting waiting_after =
    (written : List ℕ) × Appends held held_after written × (waiting ≡ written ++ waiting_after)

-- the text is these lines, each ended by an LF, and then a rest with no LF
pub record Cut (text : List ℕ) (lines : List (List ℕ)) (rest : List ℕ) : Type 0 where
  pub whole : text ≡ flat_map with_lf lines ++ rest
  pub each : All NoLf lines
  pub last : NoLf rest

-- known bytes grew by a beginning of what is due, which lacks some byte
abbrev pub AppendsShort : Option (List ℕ) → Option (List ℕ) → List ℕ → Type 0
AppendsShort held held_after due = (written : List ℕ) × Appends held held_after written × IsCutShort written due

-- a write failed before all that is due was written
abbrev pub FailedWrite : RunError → Option (List ℕ) → Option (List ℕ) → List ℕ → Type 0
FailedWrite error held held_after due = (error ≡ Errors.Write) × AppendsShort held held_after due
