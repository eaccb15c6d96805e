-- What `linkwire_show` writes: a text, for which the buffer may have no room.
use Rattle.std.specs.Prelude.{◌≡◌, ℕ, ◌==◌, ◌<◌, List, [], length, Bool, true, false, Result, Ok, Err, cond}
use Rattle.nla_wire.specs.Canon.{Writes}
use Rattle.message_shown.specs.Contexts.{IsPlain}
use Rattle.message_shown.specs.Whole.{Whole, IsWholeAnswerTo, IsWholeLenientAnswerTo}
use Rattle.message_shown.specs.Worded.{order_of, order_or}
use Rattle.message_shown.specs.declared.context.Context.{Context}
use Rattle.frame_shown.specs.declared.form.Order.{Order}
use Rattle.frame_shown.specs.declared.form.Order.TheVariants as Orders
use Rattle.link_c.specs.Flags.{AreFlags}
use Rattle.link_c.specs.declared.flags.Flags.{Flags}
use Rattle.link_c.specs.declared.refusal.Refusal.{Refusal}
use Rattle.link_c.specs.declared.refusal.Refusal.TheVariants.{OutOfMemory, UnknownFlag}

-- ** numbers of linkwire.h

-- the order of counters that a number stands for; any other one is unknown
abbrev pub numbered_order : ℕ → Order
numbered_order n = cond (n == 1) Orders.Before (cond (n == 2) Orders.Since Orders.Unknown)

abbrev pub order_number : Order → ℕ
order_number Orders.Unknown = 0
order_number Orders.Before = 1
order_number Orders.Since = 2

-- the number of the order in a release, or of an unknown one where the text is no release
abbrev pub release_number : List ℕ → ℕ
release_number release = order_number (order_or (order_of release))

-- ** texts in a buffer

-- the text stands at the front of the buffer, and the rest is kept; or the buffer has fewer bytes, and is as it was
pub data Puts (text old new : List ℕ) : Type 0 where
  written : Writes text old new (length text) → Puts text old new
  short : length old < length text → new ≡ old → Puts text old new

-- the text has so many bytes, and was put
abbrev pub PutsWhole : List ℕ → List ℕ → List ℕ → ℕ → Type 0
PutsWhole text old new n = (n ≡ length text) × Puts text old new

-- ** what is shown

-- the text is the whole answer to a line that spells these bytes, with no words in front, where they are read so
pub record AnswersBy (To : Whole) (order : Order) (bytes text : List ℕ) : Type 0 where
  pub context : Context
  pub plain : IsPlain order context
  pub answer : To context [] bytes text

-- read leniently or not: where they mean a message, by all its members; leniently where their frames fit, by all that
-- are accepted and all that are refused; and else by their first fault, and all that is said of it
abbrev pub Answers : Bool → Order → List ℕ → List ℕ → Type 0
Answers false = AnswersBy IsWholeAnswerTo
Answers true = AnswersBy IsWholeLenientAnswerTo

-- the answer to these bytes by what the flags say, n bytes; or memory ran out, or a flag is none, and the buffer is as
-- it was
abbrev pub IsShown : Order → ℕ → List ℕ → List ℕ → List ℕ → Result ℕ Refusal → Type 0
IsShown order flags b old new (Ok n) =
    (f : Flags) × AreFlags flags (Ok f)
    × ((text : List ℕ) × Answers f.lenient order b text × PutsWhole text old new n)
IsShown order flags b old new (Err OutOfMemory) = ((f : Flags) × AreFlags flags (Ok f)) × (new ≡ old)
IsShown order flags b old new (Err UnknownFlag) = AreFlags flags (Err UnknownFlag) × (new ≡ old)
IsShown order flags b old new (Err e) = ⊥
