-- What each line is answered, to the last token.
use Rattle.std.specs.Prelude.{◌≡◌, ℕ, List, ◌∷◌, ◌++◌}
use Rattle.link_msg.specs.Lenient.{MeansLeniently, MeansNoneLeniently}
use Rattle.link_msg.specs.Messages.{Means, FirstFault, MeansNothing}
use Rattle.link_msg.specs.Told.{told_all}
use Rattle.link_msg.specs.declared.message.LinkMessage.{LinkMessage}
use Rattle.nla_wire.specs.declared.error.Cause.{Cause}
use Rattle.line_filter.specs.Words.{front_of, rest_of}
use Rattle.shown.specs.Drafts.{Members}
use Rattle.shown.specs.Pages.{IsObject}
use Rattle.message_shown.specs.Contexts.{IsPlain}
use Rattle.message_shown.specs.Faults.{AreOfFault}
use Rattle.message_shown.specs.Leniently.{AreTold, lenient_line}
use Rattle.message_shown.specs.Lines.{Answering, Telling, AddsAnswerTo, IsAnswerOf, fault_head, fault_member}
use Rattle.message_shown.specs.Lines.{message_head, message_line, whole_object}
use Rattle.message_shown.specs.Worded.{order_for}
use Rattle.message_shown.specs.declared.context.Context.{Context}
use Rattle.frame_shown.specs.declared.form.Order.{Order}

-- ** to bytes

-- an answer to bytes: what they are shown by, the words in front of them, the bytes, the answer
abbrev pub Whole : Type 1
Whole = Context → Members → List ℕ → List ℕ → Type 0

-- one object on one line: all that the message says, or all that is said of the fault
pub data IsWholeAnswerTo (cx : Context) (words : Members) (bytes answer : List ℕ) : Type 0 where
  fault : (c : Cause) → FirstFault bytes c → IsObject (fault_head words c) answer
      → (ms : Members) → AreOfFault cx bytes c ms → answer ≡ whole_object (words ++ fault_member c ∷ ms)
      → IsWholeAnswerTo cx words bytes answer
  message : (m : LinkMessage) → Means bytes m → IsObject (message_head words m) answer
      → answer ≡ message_line words cx bytes → IsWholeAnswerTo cx words bytes answer

-- where they are read leniently: what they mean so, with all attributes that are refused behind it, has an answer too
pub data IsWholeLenientAnswerTo (cx : Context) (words : Members) (bytes answer : List ℕ) : Type 0 where
  fault : (c : Cause) → FirstFault bytes c → MeansNoneLeniently bytes → IsObject (fault_head words c) answer
      → (ms : Members) → AreOfFault cx bytes c ms → answer ≡ whole_object (words ++ fault_member c ∷ ms)
      → IsWholeLenientAnswerTo cx words bytes answer
  message : (m : LinkMessage) → Means bytes m → IsObject (message_head words m) answer
      → answer ≡ message_line words cx bytes → IsWholeLenientAnswerTo cx words bytes answer
  part : (m : LinkMessage) → MeansLeniently bytes m → MeansNothing bytes → IsObject (message_head words m) answer
      → (told : List Members) → AreTold (told_all bytes) told → answer ≡ lenient_line words cx bytes told
      → IsWholeLenientAnswerTo cx words bytes answer

-- by this order of counters
abbrev pub ToBytes : Whole → Order → Answering
ToBytes To order words bytes answer = (cx : Context) × IsPlain order cx × To cx words bytes answer

-- ** to lines

-- an answer to the bytes of a line with these words: by the order of counters that they say, or else by this one
abbrev pub ToLine : Whole → Order → List ℕ → Answering
ToLine To order front = ToBytes To (order_for front order)

-- what a line is answered
abbrev pub IsWholeAnswer : Whole → Order → List ℕ → List ℕ → Type 0
IsWholeAnswer To order line answer =
    IsAnswerOf (ToLine To order (front_of line)) (front_of line) (rest_of line) answer

-- ** what follows

-- such an answer begins so
abbrev pub BeginsAs : Whole → Answering → Type 0
BeginsAs To Head =
    (cx : Context) (words : Members) (bytes answer : List ℕ) → To cx words bytes answer → Head words bytes answer

-- where such an answer was added, this was told
abbrev pub TellsAs : Whole → Telling → Type 0
TellsAs To Tells = (cx : Context) (words : Members) (bytes old new : List ℕ)
    → AddsAnswerTo (To cx) words bytes old new → Tells words cx bytes old new
