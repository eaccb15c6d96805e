-- The state encoding of what bytes mean leniently, and its laws.
use Rattle.std.specs.Prelude.{◌≡◌, ℕ, ◌<◌, ◌↔◌, List, [], ◌∷◌, ◌++◌, length, take, drop, Result, Ok, Err}
use Rattle.nla_wire.specs.Canon.{Writes}
use Rattle.nla_wire.specs.Frames.{Frame, IsBytes}
use Rattle.nla_wire.specs.declared.error.Cause.{Cause}
use Rattle.link_vals.specs.declared.address_family.AddressFamily.{AddressFamily}
use Rattle.link_msg.specs.Header.{header_size}
use Rattle.link_msg.specs.Tables.{attribute_place}
use Rattle.link_msg.specs.Messages.{message_text}
use Rattle.link_msg.specs.Lenient.{IsLenientlyAccepted, IsLenientRefusalAlone}
use Rattle.link_msg.specs.declared.encoding.CanonError.{CanonError}
use Rattle.link_msg.specs.declared.encoding.RoomError.{RoomError}
use Rattle.link_msg.specs.declared.encoding.RoomError.TheVariants as Rooms
use Rattle.link_msg.specs.declared.attribute.LinkAttribute.{LinkAttribute}
use Rattle.link_msg.specs.declared.attribute.LinkAttribute.TheVariants as Attributes
use Rattle.link_msg.specs.declared.message.LinkMessage.{LinkMessage}
use Rattle.link_state.specs.Cleared.{filled}
use Rattle.link_state.specs.State.{level_of, state, HasState}

-- what `state_lenient` returns of b: the state encoding of the message that b means leniently
pub record HasLenientState (b s : List ℕ) : Type 0 where
  pub message : LinkMessage
  pub accepted : IsLenientlyAccepted b message
  pub text : s ≡ state (message_text message)

-- how long it is, or why there is none
abbrev pub HasLenientStateLength : List ℕ → Result ℕ CanonError → Type 0
HasLenientStateLength b (Ok n) =
    (m : LinkMessage) × IsLenientlyAccepted b m × (n ≡ length (state (message_text m)))
HasLenientStateLength b (Err e) = IsLenientRefusalAlone b e

-- what `state_lenient_into` did: the state encoding stands at the front and the rest is kept; or nothing was written
abbrev pub IsLenientStateWritten : List ℕ → List ℕ → List ℕ → Result ℕ CanonError → Type 0
IsLenientStateWritten b old new (Ok n) =
    (m : LinkMessage) × IsLenientlyAccepted b m × Writes (state (message_text m)) old new n
IsLenientStateWritten b old new (Err e) = IsLenientRefusalAlone b e × (new ≡ old)

-- what `state_lenient_within` did: the same, and nothing was written either where the text has more bytes than the
-- buffer
abbrev pub IsLenientStateWithin : List ℕ → List ℕ → List ℕ → Result ℕ RoomError → Type 0
IsLenientStateWithin b old new (Ok n) =
    (m : LinkMessage) × IsLenientlyAccepted b m × Writes (state (message_text m)) old new n
IsLenientStateWithin b old new (Err (Rooms.NoEncoding e)) = IsLenientRefusalAlone b e × (new ≡ old)
IsLenientStateWithin b old new (Err (Rooms.NoRoom wanted)) =
    (m : LinkMessage) × IsLenientlyAccepted b m × (wanted ≡ length (message_text m)) × (length old < wanted)
    × (new ≡ old)

-- ** laws

-- t is the lenient canonical encoding of this message, which it means leniently, which fits and holds no empty list of
-- ports
pub record IsLenientlyCanonical (t : List ℕ) (m : LinkMessage) : Type 0 where
  pub accepted : IsLenientlyAccepted t m
  pub text : t ≡ message_text m

-- v is a frame that is refused, and kept whole
abbrev pub IsRaw : AddressFamily → LinkAttribute → Type 0
IsRaw family v = (f : Frame) × (c : Cause) × (attribute_place family).bad f c × (v ≡ Attributes.Other f)

-- both are equally long, and the same of their attributes are raw
abbrev pub SameRaw : AddressFamily → List LinkAttribute → List LinkAttribute → Type 0
SameRaw family [] [] = Unit {0}
SameRaw family [] (w ∷ ws) = ⊥
SameRaw family (v ∷ vs) [] = ⊥
SameRaw family (v ∷ vs) (w ∷ ws) = (IsRaw family v ↔ IsRaw family w) × SameRaw family vs ws

-- the state of a lenient canonical encoding is the lenient canonical encoding of some message, of which the same
-- attributes are raw
abbrev pub LenientStateIsCanonical : Type 0
LenientStateIsCanonical = (t : List ℕ) (m : LinkMessage) → IsBytes t → IsLenientlyCanonical t m
    → (n : LinkMessage) × IsLenientlyCanonical (state t) n
    × SameRaw m.header.interface_family m.attributes n.attributes

-- the same where another byte than zero is written, under the same header
abbrev pub LenientFilledIsCanonical : Type 0
LenientFilledIsCanonical = (by : ℕ) (t : List ℕ) (m : LinkMessage) → by < 256 → IsBytes t → IsLenientlyCanonical t m
    → (n : LinkMessage) × (n.header ≡ m.header)
    × IsLenientlyCanonical (take header_size t ++ filled by (level_of t) (drop header_size t)) n
    × SameRaw m.header.interface_family m.attributes n.attributes

-- what has a state has the same one leniently
abbrev pub StrictStateStays : Type 0
StrictStateStays = (b s t : List ℕ) → HasState b s → HasLenientState b t → s ≡ t
