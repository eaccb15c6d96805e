-- What a run writes.
use Rattle.std.specs.Prelude.{ℕ, List, Option}
use Rattle.line_filter.specs.Lines as filter
use Rattle.line_filter.specs.declared.error.RunError.{RunError}
use Rattle.message_shown.specs.Whole.{Whole, IsWholeAnswer}
use Rattle.frame_shown.specs.declared.form.Order.{Order}

-- the reader was read to its end, and what was written are the answers to the lines of what it gave, with this order of
-- counters where they say none, in order, each ended by an LF
abbrev pub RanToEnd : Whole → Order → Option (List ℕ) → Option (List ℕ) → Option (List ℕ) → Option (List ℕ) → Type 0
RanToEnd To order left left_after held held_after =
    filter.RanToEnd (IsWholeAnswer To order) left left_after held held_after

-- some bytes were read, and of the complete lines among them the first were answered; of these answers was written what
-- the error leaves; a read fails before the end
abbrev pub Stopped : Whole → Order → RunError → Option (List ℕ) → Option (List ℕ) → Option (List ℕ)
    → Option (List ℕ) → Type 0
Stopped To order error left left_after held held_after =
    filter.StoppedAfter (IsWholeAnswer To order) error left left_after held held_after
