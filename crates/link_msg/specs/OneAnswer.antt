-- The one answer to bytes: the canonical encoding of one message, or one refusal.
use Rattle.std.specs.Prelude.{◌≡◌, ℕ, List}
use Rattle.nla_wire.specs.Frames.{IsBytes}
use Rattle.nla_wire.specs.declared.error.Cause.{Cause}
use Rattle.link_msg.specs.Messages.{Means, FirstFault, MeansNothing}
use Rattle.link_msg.specs.Canonical.{HasText, IsUnfit, HasEmptyPorts}
use Rattle.link_msg.specs.FaultAt.{FaultsAlong}
use Rattle.link_msg.specs.declared.message.LinkMessage.{LinkMessage}

-- what `canonical` returns with ample memory: a text, the cause of a fault, or why a message cannot be written
pub data Answer : Type 0 where
  Text : List ℕ → Answer
  Fault : Cause → Answer
  Unfit : Answer
  EmptyPorts : Answer

abbrev pub IsAnswer : List ℕ → Answer → Type 0
IsAnswer b (Answer.Text t) = HasText b t
IsAnswer b (Answer.Fault c) = FirstFault b c × MeansNothing b
IsAnswer b Answer.Unfit = IsUnfit b
IsAnswer b Answer.EmptyPorts = HasEmptyPorts b

-- the bytes have this answer and no other
pub record HasOneAnswer (b : List ℕ) : Type 0 where
  pub answer : Answer
  pub is : IsAnswer b answer
  pub only : (other : Answer) → IsAnswer b other → other ≡ answer

-- each byte string has one
abbrev pub EachHasOneAnswer : Type 0
EachHasOneAnswer = (b : List ℕ) → IsBytes b → HasOneAnswer b

-- no bytes have two faults
abbrev pub OneFault : Type 0
OneFault = (b : List ℕ) (c d : Cause) → FirstFault b c → FirstFault b d → c ≡ d

-- no bytes have a fault and a meaning
abbrev pub FaultOrMeaning : Type 0
FaultOrMeaning = (b : List ℕ) (c : Cause) (m : LinkMessage) → FirstFault b c → Means b m → ⊥

-- a fault is in one place, and one path leads there
abbrev pub OneFaultPath : Type 0
OneFaultPath =
    (b : List ℕ) (c d : Cause) (at there : ℕ) (numbers others : List ℕ) → IsBytes b
    → FaultsAlong b c at numbers → FaultsAlong b d there others
    → (c ≡ d) × (at ≡ there) × (numbers ≡ others)

-- what is in a place is the fault of the bytes
abbrev pub PathOfTheFault : Type 0
PathOfTheFault = (b : List ℕ) (c : Cause) (at : ℕ) (numbers : List ℕ) → FaultsAlong b c at numbers → FirstFault b c
