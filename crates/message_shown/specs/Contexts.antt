-- What lines are shown by, beside themselves.
use Rattle.std.specs.Prelude.{ℕ, List, Option}
use Rattle.frame_shown.specs.Plain as frames
use Rattle.frame_shown.specs.Values as values
use Rattle.frame_shown.specs.declared.form.Order.{Order}
use Rattle.message_shown.specs.declared.context.Context.{Context}

-- nothing is known of a message yet but the order of its counters: the rows are those of each place
abbrev pub IsPlain : Order → Context → Type 0
IsPlain order cx = frames.IsPlain order cx.around

-- the text that a payload is
abbrev pub text_in : List ℕ → Option (List ℕ)
text_in p = values.text_in p
