-- What each line is answered, and what a run writes.
use Rattle.std.specs.Prelude.{ℕ, List, Option}
use Rattle.link_msg.specs.Canonical.{HasText}
use Rattle.link_msg.specs.Messages.{Means}
use Rattle.message_lines.specs.Answers as answers
use Rattle.line_filter.specs.Lines as filter
use Rattle.line_filter.specs.declared.error.RunError.{RunError}

-- what a line is answered: `nothex`, `refused`, `unfit`, `empty-ports`, or `ok ` and the canonical text in hexadecimal
abbrev pub IsAnswer : List ℕ → List ℕ → Type 0
IsAnswer = answers.IsAnswer Means HasText

-- an answer to each of the lines, in order, each ended by an LF
abbrev pub AreAnswers : List (List ℕ) → List ℕ → Type 0
AreAnswers = filter.AreAnswers IsAnswer

-- the reader was read to its end, and what was written are the answers to the lines of what it gave
abbrev pub RanToEnd : Option (List ℕ) → Option (List ℕ) → Option (List ℕ) → Option (List ℕ) → Type 0
RanToEnd = filter.RanToEnd IsAnswer

-- some bytes were read, and of the answers to all complete lines among them was written what the error leaves; a read
-- fails before the end
abbrev pub Stopped : RunError → Option (List ℕ) → Option (List ℕ) → Option (List ℕ) → Option (List ℕ) → Type 0
Stopped = filter.Stopped IsAnswer
