-- What a run writes: the lines of a text, and what each of them is answered.
use Rattle.std.specs.Prelude.{◌≡◌, ℕ, ◌==◌, ◌<◌, Bool, true, false, List, [], ◌∷◌, ◌++◌, length, if◌then◌else◌, Option}
use Rattle.std.specs.List.{flat_map, AllZip}
use Rattle.std.specs.Io.KnownBytes.{Consumes, Appends, IsAtEnd}
use Rattle.line_filter.specs.declared.error.RunError.{RunError}
use Rattle.line_filter.specs.declared.error.RunError.TheVariants as Errors

-- the byte x, put before a text with these lines: where there is none, x is a line if the text has ended
abbrev pub put_front : Bool → ℕ → List (List ℕ) → List (List ℕ)
put_front ended x [] = if ended then (x ∷ []) ∷ [] else []
put_front ended x (line ∷ lines) = (x ∷ line) ∷ lines

-- the complete lines of a text: those that an LF (10) ends, and, if the text has ended, what follows the last LF,
-- unless it is empty
abbrev pub complete_lines : Bool → List ℕ → List (List ℕ)
complete_lines ended [] = []
complete_lines ended (x ∷ xs) =
    if x == 10 then [] ∷ complete_lines ended xs else put_front ended x (complete_lines ended xs)

-- the lines of a whole text
abbrev pub lines_of : List ℕ → List (List ℕ)
lines_of text = complete_lines true text

-- what answers a line has
abbrev pub Relation : Type 1
Relation = List ℕ → List ℕ → Type 0

-- each line has an answer
abbrev pub AnswersEach : Relation → Type 0
AnswersEach is = (line : List ℕ) → (answer : List ℕ) × is line answer

-- the line has this answer and no other
pub record HasOneAnswer (is : Relation) (line : List ℕ) : Type 0 where
  pub answer : List ℕ
  pub holds : is line answer
  pub only : (other : List ℕ) → is line other → other ≡ answer

abbrev pub EachHasOneAnswer : Relation → Type 0
EachHasOneAnswer is = (line : List ℕ) → HasOneAnswer is line

-- the line and its LF
abbrev pub with_lf : List ℕ → List ℕ
with_lf line = line ++ 10 ∷ []

-- an answer to each of the lines, in order, each ended by an LF
pub record AreAnswers (is : Relation) (lines : List (List ℕ)) (written : List ℕ) : Type 0 where
  pub answers : List (List ℕ)
  pub each : AllZip is lines answers
  pub joined : written ≡ flat_map with_lf answers

-- xs is a beginning of ys
abbrev pub IsBeginning : List ℕ → List ℕ → Type 0
IsBeginning xs ys = (more : List ℕ) × (ys ≡ xs ++ more)

-- xs is a beginning of ys that lacks some byte
abbrev pub IsCutShort : List ℕ → List ℕ → Type 0
IsCutShort xs ys = (more : List ℕ) × (0 < length more) × (ys ≡ xs ++ more)

-- what is written of the bytes that are due where a run stops: all of them before a read that fails, not all of them
-- where a write fails, and any beginning of them where no memory is left
abbrev pub IsCut : RunError → List ℕ → List ℕ → Type 0
IsCut Errors.Read written due = written ≡ due
IsCut Errors.Write written due = IsCutShort written due
IsCut Errors.OutOfMemory written due = IsBeginning written due

-- the answers to these lines were due, and known bytes grew by what the error leaves of them
pub record WroteSome (is : Relation) (error : RunError) (held held_after : Option (List ℕ))
    (lines : List (List ℕ)) : Type 0 where
  pub due : List ℕ
  pub answers : AreAnswers is lines due
  pub written : List ℕ
  pub appended : Appends held held_after written
  pub cut : IsCut error written due

-- the reader was read to its end, and what was written are the answers to the lines of what it gave
pub record RanToEnd (is : Relation) (left left_after held held_after : Option (List ℕ)) : Type 0 where
  pub text : List ℕ
  pub consumed : Consumes left left_after text
  pub at_end : IsAtEnd left_after
  pub written : List ℕ
  pub appended : Appends held held_after written
  pub answers : AreAnswers is (lines_of text) written

-- some bytes were read, and of the answers to all complete lines among them was written what the error leaves; a read
-- fails before the end
pub record Stopped (is : Relation) (error : RunError) (left left_after held held_after : Option (List ℕ)) : Type 0 where
  pub text : List ℕ
  pub ended : Bool
  pub consumed : Consumes left left_after text
  pub at_end : ended ≡ true → IsAtEnd left_after
  pub before_end : error ≡ Errors.Read → ended ≡ false
  pub wrote : WroteSome is error held held_after (complete_lines ended text)

-- ** which lines were answered where a run stops

-- the lines are these from the first on, and maybe not all of them
abbrev pub AreFirst : List (List ℕ) → List (List ℕ) → Type 0
AreFirst lines all = (more : List (List ℕ)) × (all ≡ lines ++ more)

-- which lines were answered where a run stops: all of them before a read that fails
abbrev pub AreTaken : RunError → List (List ℕ) → List (List ℕ) → Type 0
AreTaken Errors.Read lines all = lines ≡ all
AreTaken Errors.Write lines all = AreFirst lines all
AreTaken Errors.OutOfMemory lines all = AreFirst lines all

-- of these lines the first were answered, and known bytes grew by what the error leaves of the answers
pub record WroteFirst (is : Relation) (error : RunError) (held held_after : Option (List ℕ))
    (all : List (List ℕ)) : Type 0 where
  pub lines : List (List ℕ)
  pub taken : AreTaken error lines all
  pub due : List ℕ
  pub answers : AreAnswers is lines due
  pub written : List ℕ
  pub appended : Appends held held_after written
  pub cut : IsCut error written due

-- as in `Stopped`, but of the complete lines the first alone are due, which were answered
pub record StoppedAfter (is : Relation) (error : RunError) (left left_after held held_after : Option (List ℕ))
    : Type 0 where
  pub text : List ℕ
  pub ended : Bool
  pub consumed : Consumes left left_after text
  pub at_end : ended ≡ true → IsAtEnd left_after
  pub before_end : error ≡ Errors.Read → ended ≡ false
  pub wrote : WroteFirst is error held held_after (complete_lines ended text)
