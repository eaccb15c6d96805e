-- What a run over lines does, whatever takes them: a state goes from line to line, and each line adds bytes.
use Rattle.std.specs.Prelude.{◌≡◌, ℕ, ◌-◌, ◌^◌, ◌≤◌, Bool, true, false, MatchBool, List, [], ◌∷◌, ◌++◌, length, Option}
use Rattle.std.specs.Io.KnownBytes.{Consumes, Appends, IsAtEnd}
use Rattle.line_filter.specs.Lines.{Relation, complete_lines, lines_of, with_lf, AreTaken, IsCut}
use Rattle.line_filter.specs.Steps.{Cut}
use Rattle.line_filter.specs.declared.error.RunError.{RunError}
use Rattle.line_filter.specs.declared.error.RunError.TheVariants as Errors

-- from a state, a line leads to another one, and these bytes are added
abbrev pub Taking : Type 0 → Type 1
Taking S = S → List ℕ → S → List ℕ → Type 0

-- each line is answered by what the state keeps, which stays the same
abbrev pub answering : {S K : Type 0} → (K → Relation) → (S → K) → Taking S
answering is kept old line new added =
    ((answer : List ℕ) × is (kept old) line answer × (added ≡ with_lf answer)) × (kept new ≡ kept old)

-- nothing is kept that answers depend on
abbrev pub nothing : {S : Type 0} → S → Unit {0}
nothing _ = tt

abbrev pub AddsLine : {S : Type 0} → Taking S → List ℕ → S → S → List ℕ → List ℕ → Type 0
AddsLine takes line old new before now = (added : List ℕ) × takes old line new added × (now ≡ before ++ added)

-- lines are taken one after another, each from the state that those before it left
abbrev pub Runs : {S : Type 0} → Taking S → S → List (List ℕ) → S → List ℕ → Type 0
Runs takes old [] new added = (new ≡ old) × (added ≡ [])
Runs {S} takes old (line ∷ lines) new added =
    (mid : S) × (first : List ℕ) × (rest : List ℕ) × takes old line mid first × Runs takes mid lines new rest
    × (added ≡ first ++ rest)

-- the lines that an LF ends in the text were taken, and the rest is what follows them
pub record RunsSome {S : Type 0} (takes : Taking S) (old new : S) (held held_after : Option (List ℕ))
    (text rest : List ℕ) : Type 0 where
  pub lines : List (List ℕ)
  pub cut : Cut text lines rest
  pub written : List ℕ
  pub appended : Appends held held_after written
  pub runs : Runs takes old lines new written

-- a last line was taken, if there is one
abbrev pub RunsLast : {S : Type 0} → Taking S → S → S → Option (List ℕ) → Option (List ℕ) → List ℕ → Type 0
RunsLast takes old new held held_after text =
    (written : List ℕ) × Appends held held_after written × Runs takes old (lines_of text) new written

-- the reader was read to its end, and what was written is what the lines of what it gave add
pub record RunsAll {S : Type 0} (takes : Taking S) (old new : S)
    (left left_after held held_after : Option (List ℕ)) : Type 0 where
  pub text : List ℕ
  pub consumed : Consumes left left_after text
  pub at_end : IsAtEnd left_after
  pub last : RunsLast takes old new held held_after text

-- so many reads as there may be gave a byte at least, and the lines that an LF ends were taken
pub record NotEnded {S : Type 0} (takes : Taking S) (old : S)
    (left left_after held held_after : Option (List ℕ)) : Type 0 where
  pub text : List ℕ
  pub consumed : Consumes left left_after text
  pub long : 2 ^ 64 - 1 ≤ length text
  pub last : S
  pub written : List ℕ
  pub appended : Appends held held_after written
  pub runs : Runs takes old (complete_lines false text) last written

-- whether the reader came to its end
abbrev pub ToldEnd : {S : Type 0} → Taking S → Bool → S → S → Option (List ℕ) → Option (List ℕ) → Option (List ℕ)
    → Option (List ℕ) → Type 0
ToldEnd takes ended old new left left_after held held_after =
    MatchBool ended (RunsAll takes old new left left_after held held_after)
    (NotEnded takes old left left_after held held_after)

-- ** runs that stop early

-- of these lines the first were taken, and known bytes grew by what the error leaves of what they add
pub record RunsShort {S : Type 0} (takes : Taking S) (error : RunError) (old : S) (held held_after : Option (List ℕ))
    (all : List (List ℕ)) : Type 0 where
  pub lines : List (List ℕ)
  pub taken : AreTaken error lines all
  pub last : S
  pub due : List ℕ
  pub runs : Runs takes old lines last due
  pub written : List ℕ
  pub appended : Appends held held_after written
  pub cut : IsCut error written due

-- the last line had to be taken, if there is one; that needs no read
abbrev pub StopsLast : {S : Type 0} → Taking S → RunError → S → Option (List ℕ) → Option (List ℕ) → List ℕ → Type 0
StopsLast takes error old held held_after text =
    (error ≡ Errors.Read → ⊥) × RunsShort takes error old held held_after (lines_of text)

-- some bytes were read, and of what the complete lines among them add was written what the error leaves; a read fails
-- before the end
pub record Stops {S : Type 0} (takes : Taking S) (error : RunError) (old : S)
    (left left_after held held_after : Option (List ℕ)) : Type 0 where
  pub text : List ℕ
  pub ended : Bool
  pub consumed : Consumes left left_after text
  pub at_end : ended ≡ true → IsAtEnd left_after
  pub before_end : error ≡ Errors.Read → ended ≡ false
  pub wrote : RunsShort takes error old held held_after (complete_lines ended text)
