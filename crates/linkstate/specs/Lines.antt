-- What each line is answered, and what a run writes.
use Rattle.std.specs.Prelude.{ℕ, List, Option}
use Rattle.message_lines.specs.Answers as answers
use Rattle.message_lines.specs.Answers.{Meaning, Encodes}
use Rattle.line_filter.specs.Lines as filter
use Rattle.line_filter.specs.Words.{WithWords}
use Rattle.line_filter.specs.declared.error.RunError.{RunError}

-- what a line is answered: the words in front of it as they stand, and then, for its rest, `nothex`, `refused`,
-- `unfit`, `empty-ports`, or `ok ` and the encoding in hexadecimal of what it means
abbrev pub IsAnswer : Meaning → Encodes → List ℕ → List ℕ → Type 0
IsAnswer Means Text = WithWords (answers.IsAnswer Means Text)

-- an answer to each of the lines, in order, each ended by an LF
abbrev pub AreAnswers : Meaning → Encodes → List (List ℕ) → List ℕ → Type 0
AreAnswers Means Text = filter.AreAnswers (IsAnswer Means Text)

-- the reader was read to its end, and what was written are the answers to the lines of what it gave
abbrev pub RanToEnd : Meaning → Encodes → Option (List ℕ) → Option (List ℕ) → Option (List ℕ) → Option (List ℕ)
    → Type 0
RanToEnd Means Text = filter.RanToEnd (IsAnswer Means Text)

-- some bytes were read, and of the answers to all complete lines among them was written what the error leaves; a read
-- fails before the end
abbrev pub Stopped : Meaning → Encodes → RunError → Option (List ℕ) → Option (List ℕ) → Option (List ℕ)
    → Option (List ℕ) → Type 0
Stopped Means Text = filter.Stopped (IsAnswer Means Text)
