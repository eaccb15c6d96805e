-- What is compared of messages.
use Rattle.std.specs.Prelude.{◌≡◌, ◌≢◌, ◌↔◌, ◌⊎◌, ◌++◌, ℕ, List, Bool, true, false, cond}
use Rattle.link_msg.specs.Canonical.{HasText, IsAccepted, IsRefusal}
use Rattle.link_msg.specs.Lenient.{HasLenientText, IsLenientlyAccepted, IsLenientRefusal}
use Rattle.link_msg.specs.declared.encoding.CanonError.{CanonError}
use Rattle.link_msg.specs.declared.encoding.CanonError.TheVariants as Refusals
use Rattle.link_msg.specs.declared.message.LinkMessage.{LinkMessage}
use Rattle.link_state.specs.State.{HasState}
use Rattle.link_state.specs.LenientState.{HasLenientState}
use Rattle.frame_diff.specs.Members.{Parts, leniently as apart, whole}
use Rattle.message_diff.specs.declared.snapshot.Compared.{Compared}
use Rattle.message_diff.specs.declared.snapshot.Compared.TheVariants.{State, Message, LenientState, LenientMessage}

-- the same of messages that are read leniently
abbrev pub leniently : Compared → Compared
leniently State = LenientState
leniently Message = LenientMessage
leniently LenientState = LenientState
leniently LenientMessage = LenientMessage

-- the same with what moves by itself
abbrev pub with_counters : Compared → Compared
with_counters State = Message
with_counters Message = Message
with_counters LenientState = LenientMessage
with_counters LenientMessage = LenientMessage

-- whether what moves by itself does not count
abbrev pub is_state : Compared → Bool
is_state State = true
is_state LenientState = true
is_state Message = false
is_state LenientMessage = false

abbrev pub is_lenient : Compared → Bool
is_lenient State = false
is_lenient Message = false
is_lenient LenientState = true
is_lenient LenientMessage = true

-- what is compared of an encoding: where it is read leniently, attributes that are refused are apart
abbrev pub parts_by : Compared → List ℕ → Parts
parts_by by text = cond (is_lenient by) (apart text) (whole text)

-- the encoding of the message that the bytes mean, or mean leniently
abbrev pub HasTextBy : Compared → List ℕ → List ℕ → Type 0
HasTextBy State bytes text = HasState bytes text
HasTextBy Message bytes text = HasText bytes text
HasTextBy LenientState bytes text = HasLenientState bytes text
HasTextBy LenientMessage bytes text = HasLenientText bytes text

-- why there is none
abbrev pub IsRefusalBy : Compared → List ℕ → CanonError → Type 0
IsRefusalBy State bytes e = IsRefusal bytes e
IsRefusalBy Message bytes e = IsRefusal bytes e
IsRefusalBy LenientState bytes e = IsLenientRefusal bytes e
IsRefusalBy LenientMessage bytes e = IsLenientRefusal bytes e

-- and not for lack of memory
abbrev pub IsRefusalAloneBy : Compared → List ℕ → CanonError → Type 0
IsRefusalAloneBy by bytes e = IsRefusalBy by bytes e × (e ≢ Refusals.OutOfMemory)

-- the bytes mean a message that has one
abbrev pub IsAcceptedBy : Compared → List ℕ → Type 0
IsAcceptedBy State bytes = (m : LinkMessage) × IsAccepted bytes m
IsAcceptedBy Message bytes = (m : LinkMessage) × IsAccepted bytes m
IsAcceptedBy LenientState bytes = (m : LinkMessage) × IsLenientlyAccepted bytes m
IsAcceptedBy LenientMessage bytes = (m : LinkMessage) × IsLenientlyAccepted bytes m

-- the first is refused so; or it is accepted, and the second is refused so
abbrev pub IsRefusalOfTwoBy : Compared → List ℕ → List ℕ → CanonError → Type 0
IsRefusalOfTwoBy by a b e = IsRefusalBy by a e ⊎ (IsAcceptedBy by a × IsRefusalBy by b e)

-- whether a line is added of two byte strings: none is exactly where what they mean has one encoding
abbrev pub TellsIfDiffers : Compared → List ℕ → List ℕ → Bool → Type 0
TellsIfDiffers by old new told =
    (s : List ℕ) × (t : List ℕ) × HasTextBy by old s × HasTextBy by new t × ((told ≡ false) ↔ (s ≡ t))

-- something is added to what waits, or nothing, and nothing is taken away
abbrev pub Extends : List ℕ → List ℕ → Type 0
Extends old new = (more : List ℕ) × (new ≡ old ++ more)
