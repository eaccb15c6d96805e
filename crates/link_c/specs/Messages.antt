-- What the calls on messages find.
use Rattle.std.specs.Prelude.{◌≡◌, ◌≢◌, ℕ, ◌<◌, ◌≤◌, ◌^◌, ◌⊎◌, Bool, List, length, Result, Ok, Err}
use Rattle.nla_wire.specs.Canon.{Writes}
use Rattle.nla_wire.specs.declared.error.Cause.{Cause}
use Rattle.nla_wire.specs.declared.error.Cause.TheVariants as Causes
use Rattle.link_msg.specs.Messages.{Means, FirstFault, MeansNothing, message_text}
use Rattle.link_msg.specs.FaultAt.{FaultsAt}
use Rattle.link_msg.specs.Canonical.{IsAccepted, IsUnfit, HasEmptyPorts, AreSame}
use Rattle.link_msg.specs.declared.message.LinkMessage.{LinkMessage}
use Rattle.link_state.specs.State.{state, HaveSameState}
use Rattle.link_c.specs.declared.refusal.Refusal.{Refusal}
use Rattle.link_c.specs.declared.refusal.Refusal.TheVariants.{Fault, Unfit, EmptyPorts, OutOfMemory, NoRoom}

-- this is the first fault of b, which means no message; it is never lack of memory
pub record IsFault (b : List ℕ) (c : Cause) : Type 0 where
  pub first : FirstFault b c
  pub refused : MeansNothing b
  pub memory : c ≢ Causes.OutOfMemory

-- b means a message, or this is its first fault
abbrev pub MeansOrFaults : List ℕ → Result (Unit {0}) Refusal → Type 0
MeansOrFaults b (Ok fine) = (m : LinkMessage) × Means b m
MeansOrFaults b (Err (Fault c)) = IsFault b c
MeansOrFaults b (Err e) = ⊥

-- the same; and where there is a fault, the new place is where it is, else the old one
abbrev pub IsLookAt : List ℕ → ℕ → ℕ → Result (Unit {0}) Refusal → Type 0
IsLookAt b old new (Ok fine) = MeansOrFaults b (Ok fine) × (new ≡ old)
IsLookAt b old new (Err (Fault c)) = IsFault b c × FaultsAt b c new
IsLookAt b old new (Err e) = ⊥

-- why b means no message that can be written
abbrev pub IsWhy : List ℕ → Refusal → Type 0
IsWhy b (Fault c) = IsFault b c
IsWhy b Unfit = IsUnfit b
IsWhy b EmptyPorts = HasEmptyPorts b
IsWhy b e = ⊥

-- ** encodings, by any reading: which message the bytes mean that can be written, and why they mean none

abbrev pub Accepting : Type 1
Accepting = List ℕ → LinkMessage → Type 0

abbrev pub Refusing : Type 1
Refusing = List ℕ → Refusal → Type 0

-- b means a message that can be written, and its canonical encoding has a number of bytes of which this holds
abbrev pub HasTextOf : Accepting → List ℕ → (ℕ → Type 0) → Type 0
HasTextOf Accepts b holds = (m : LinkMessage) × Accepts b m × holds (length (message_text m))

-- the length of the canonical encoding, which C can count; or why there is none. What has a longer text does not fit
abbrev pub IsLengthBy : Accepting → Refusing → List ℕ → Result ℕ Refusal → Type 0
IsLengthBy Accepts Why b (Ok n) = HasTextOf Accepts b (λ len. n ≡ len) × (n < 2 ^ 63)
IsLengthBy Accepts Why b (Err Unfit) = Why b Unfit ⊎ HasTextOf Accepts b (λ len. 2 ^ 63 ≤ len)
IsLengthBy Accepts Why b (Err e) = Why b e

-- the text of the canonical encoding stands at the front, n bytes, and the rest is kept; or the buffer is as it was,
-- since there is no encoding, or since it has fewer bytes than that
abbrev pub IsTextBy : Accepting → Refusing → (List ℕ → List ℕ) → List ℕ → List ℕ → List ℕ → Result ℕ Refusal → Type 0
IsTextBy Accepts Why text b old new (Ok n) =
    (m : LinkMessage) × Accepts b m × Writes (text (message_text m)) old new n
IsTextBy Accepts Why text b old new (Err NoRoom) = HasTextOf Accepts b (λ len. length old < len) × (new ≡ old)
IsTextBy Accepts Why text b old new (Err e) = Why b e × (new ≡ old)

-- ** of what bytes mean

abbrev pub IsLength : List ℕ → Result ℕ Refusal → Type 0
IsLength = IsLengthBy IsAccepted IsWhy

abbrev pub IsText : List ℕ → List ℕ → List ℕ → Result ℕ Refusal → Type 0
IsText = IsTextBy IsAccepted IsWhy (λ t. t)

-- the state encoding, which is as long
abbrev pub IsState : List ℕ → List ℕ → List ℕ → Result ℕ Refusal → Type 0
IsState = IsTextBy IsAccepted IsWhy state

-- ** of two

-- the first is refused so; or it can be written, and the second is refused so
abbrev pub IsWhyOfTwo : List ℕ → List ℕ → Refusal → Type 0
IsWhyOfTwo a b e = IsWhy a e ⊎ (((m : LinkMessage) × IsAccepted a m) × IsWhy b e)

-- whether a and b mean the same message; or why one of them means none that can be written. That memory ran out says
-- nothing of them
abbrev pub IsComparison : List ℕ → List ℕ → Result Bool Refusal → Type 0
IsComparison a b (Ok answer) = AreSame a b answer
IsComparison a b (Err OutOfMemory) = Unit {0}
IsComparison a b (Err e) = IsWhyOfTwo a b e

-- whether what a and b mean has one state encoding; or why one of them means nothing that can be written
abbrev pub IsStateComparison : List ℕ → List ℕ → Result Bool Refusal → Type 0
IsStateComparison a b (Ok answer) = HaveSameState a b answer
IsStateComparison a b (Err e) = IsComparison a b (Err e)
