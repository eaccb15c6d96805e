-- What the calls find that read messages leniently: an attribute that is refused is kept whole.
use Rattle.std.specs.Prelude.{◌≢◌, ℕ, List, Result}
use Rattle.nla_wire.specs.declared.error.Cause.{Cause}
use Rattle.nla_wire.specs.declared.error.Cause.TheVariants as Causes
use Rattle.link_msg.specs.Lenient.{LenientFault, MeansNoneLeniently, IsLenientlyAccepted, IsLenientlyUnfit}
use Rattle.link_msg.specs.Lenient.{HasLenientPorts}
use Rattle.link_state.specs.State.{state}
use Rattle.link_c.specs.Messages.{IsLengthBy, IsTextBy}
use Rattle.link_c.specs.declared.refusal.Refusal.{Refusal}
use Rattle.link_c.specs.declared.refusal.Refusal.TheVariants.{Fault, Unfit, EmptyPorts}

-- this is the fault of b, which means no message leniently; it is never lack of memory
pub record IsLenientFault (b : List ℕ) (c : Cause) : Type 0 where
  pub first : LenientFault b c
  pub refused : MeansNoneLeniently b
  pub memory : c ≢ Causes.OutOfMemory

-- why b means no message leniently that can be written
abbrev pub IsLenientWhy : List ℕ → Refusal → Type 0
IsLenientWhy b (Fault c) = IsLenientFault b c
IsLenientWhy b Unfit = IsLenientlyUnfit b
IsLenientWhy b EmptyPorts = HasLenientPorts b
IsLenientWhy b e = ⊥

abbrev pub IsLenientLength : List ℕ → Result ℕ Refusal → Type 0
IsLenientLength = IsLengthBy IsLenientlyAccepted IsLenientWhy

abbrev pub IsLenientText : List ℕ → List ℕ → List ℕ → Result ℕ Refusal → Type 0
IsLenientText = IsTextBy IsLenientlyAccepted IsLenientWhy (λ t. t)

abbrev pub IsLenientState : List ℕ → List ℕ → List ℕ → Result ℕ Refusal → Type 0
IsLenientState = IsTextBy IsLenientlyAccepted IsLenientWhy state
