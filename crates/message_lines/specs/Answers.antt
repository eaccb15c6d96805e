-- What each line is answered.
use Rattle.std.specs.Prelude.{◌≡◌, ℕ, List, ◌++◌, ◌⊎◌, codes, Result, Ok, Err}
use Rattle.hex.specs.Hex.{decode_of, encode_lower}
use Rattle.hex.specs.declared.error.FromHexError.{FromHexError}
use Rattle.nla_wire.specs.Frames.{IsBytes}
use Rattle.link_msg.specs.Messages.{MessageFits, NoEmptyPorts}
use Rattle.link_msg.specs.declared.encoding.CanonError.{CanonError}
use Rattle.link_msg.specs.declared.encoding.CanonError.TheVariants as Refusals
use Rattle.link_msg.specs.declared.message.LinkMessage.{LinkMessage}
use Rattle.line_filter.specs.Lines as filter
use Rattle.line_filter.specs.Lines.{with_lf}
use Rattle.line_filter.specs.Steps as steps

-- ** what bytes are read as

-- bytes, and the message that they mean
abbrev pub Meaning : Type 1
Meaning = List ℕ → LinkMessage → Type 0

-- the bytes mean no message
abbrev pub MeansNone : Meaning → List ℕ → Type 0
MeansNone Means b = (m : LinkMessage) → Means b m → ⊥

-- they mean one that does not fit
abbrev pub IsUnfit : Meaning → List ℕ → Type 0
IsUnfit Means b = (m : LinkMessage) × Means b m × (MessageFits m → ⊥)

-- they mean one that fits and holds an empty list of ports
abbrev pub HasEmptyPorts : Meaning → List ℕ → Type 0
HasEmptyPorts Means b = (m : LinkMessage) × Means b m × MessageFits m × (NoEmptyPorts m → ⊥)

-- why bytes have no encoding; that memory ran out says nothing of them
abbrev pub IsRefusal : Meaning → List ℕ → CanonError → Type 0
IsRefusal Means b (Refusals.Decode e) = MeansNone Means b
IsRefusal Means b Refusals.DoesNotFit = IsUnfit Means b
IsRefusal Means b Refusals.EmptyVfPorts = HasEmptyPorts Means b
IsRefusal Means b Refusals.OutOfMemory = Unit {0}

-- no bytes mean two messages, and it is decided which mean one
pub record IsMeaning (Means : Meaning) : Type 0 where
  pub once : (b : List ℕ) (m n : LinkMessage) → Means b m → Means b n → m ≡ n
  pub decided : (b : List ℕ) → IsBytes b → ((m : LinkMessage) × Means b m) ⊎ MeansNone Means b

-- bytes, and the encoding of what they mean
abbrev pub Encodes : Type 1
Encodes = List ℕ → List ℕ → Type 0

-- bytes have an encoding where they mean a message that fits and has no empty list of ports, and no other one
pub record IsEncoding (Means : Meaning) (Text : Encodes) : Type 0 where
  pub meaning : IsMeaning Means
  pub has : (b : List ℕ) (m : LinkMessage) → IsBytes b → Means b m → MessageFits m → NoEmptyPorts m
      → (t : List ℕ) × Text b t
  pub accepts : (b t : List ℕ) → Text b t → (m : LinkMessage) × Means b m × MessageFits m × NoEmptyPorts m
  pub once : (b s t : List ℕ) → IsBytes b → Text b s → Text b t → s ≡ t

-- ** what a line is answered

-- what a line is answered that spells these bytes
pub data IsAnswerTo (Means : Meaning) (Text : Encodes) (bytes answer : List ℕ) : Type 0 where
  refused : MeansNone Means bytes → answer ≡ codes "refused" → IsAnswerTo Means Text bytes answer
  unfit : IsUnfit Means bytes → answer ≡ codes "unfit" → IsAnswerTo Means Text bytes answer
  empty_ports : HasEmptyPorts Means bytes → answer ≡ codes "empty-ports" → IsAnswerTo Means Text bytes answer
  ok : (text : List ℕ) → Text bytes text → answer ≡ codes "ok " ++ encode_lower text
      → IsAnswerTo Means Text bytes answer

-- a line that is no even number of hexadecimal digits spells no bytes
abbrev pub IsAnswerToSpelled : Meaning → Encodes → Result (List ℕ) FromHexError → List ℕ → Type 0
IsAnswerToSpelled Means Text (Ok bytes) answer = IsAnswerTo Means Text bytes answer
IsAnswerToSpelled Means Text (Err _) answer = answer ≡ codes "nothex"

-- what a line is answered
abbrev pub IsAnswer : Meaning → Encodes → List ℕ → List ℕ → Type 0
IsAnswer Means Text line answer = IsAnswerToSpelled Means Text (decode_of line) answer

-- the answer to a line that spells these bytes was added
abbrev pub AddsAnswerTo : Meaning → Encodes → List ℕ → List ℕ → List ℕ → Type 0
AddsAnswerTo Means Text bytes old new =
    (answer : List ℕ) × IsAnswerTo Means Text bytes answer × (new ≡ old ++ with_lf answer)

-- the answer to the line was added
abbrev pub AddsAnswer : Meaning → Encodes → List ℕ → List ℕ → List ℕ → Type 0
AddsAnswer Means Text = steps.AddsAnswer (IsAnswer Means Text)

-- each line has an answer, and no other one
abbrev pub EachHasOneAnswer : Meaning → Encodes → Type 0
EachHasOneAnswer Means Text = filter.EachHasOneAnswer (IsAnswer Means Text)
