-- The state encoding of canonical encoding, and what the calls return.
use Rattle.std.specs.Prelude.{◌≡◌, ℕ, ◌<◌, ◌↔◌, Bool, IsTrue, false, true, Result, Ok, Err, List, ◌++◌, length}
use Rattle.std.specs.Prelude.{take, drop, replicate, slice_index}
use Rattle.nla_wire.specs.Canon.{Writes}
use Rattle.link_vals.specs.AddressFamilyTable.{address_family_of}
use Rattle.link_msg.specs.Header.{header_size}
use Rattle.link_msg.specs.Messages.{message_text}
use Rattle.link_msg.specs.Canonical.{IsAccepted, IsRefusalAlone}
use Rattle.link_msg.specs.declared.encoding.CanonError.{CanonError}
use Rattle.link_msg.specs.declared.encoding.RoomError.{RoomError}
use Rattle.link_msg.specs.declared.encoding.RoomError.TheVariants as Rooms
use Rattle.link_msg.specs.declared.message.LinkMessage.{LinkMessage}
use Rattle.link_state.specs.Cleared.{cleared}
use Rattle.link_state.specs.Masks.{mask}
use Rattle.link_state.specs.declared.level.Level.{Level}
use Rattle.link_state.specs.declared.level.Level.TheVariants.{Message}

-- where the header's mask of changed flags is: its last four bytes
abbrev pub change_mask_at : ℕ
change_mask_at = 12

-- the level of a message's attributes, by the family in its first byte
abbrev pub level_of : List ℕ → Level
level_of t = Message (address_family_of (slice_index t 0))

-- the state encoding of canonical encoding: no flags are changed, and what moves by itself is zero
abbrev pub state : List ℕ → List ℕ
state t = take change_mask_at t ++ replicate 4 0 ++ cleared (level_of t) (drop header_size t)

-- a truth value for each byte of canonical encoding: whether it is zero in the state encoding, whatever it was
abbrev pub state_mask : List ℕ → List Bool
state_mask t = replicate change_mask_at false ++ replicate 4 true ++ mask (level_of t) (drop header_size t)

-- what `state` returns of b: the state encoding of the message that b means
pub record HasState (b s : List ℕ) : Type 0 where
  pub message : LinkMessage
  pub accepted : IsAccepted b message
  pub text : s ≡ state (message_text message)

-- what `same_state` returns of a and b: whether the messages that they mean have one state encoding
abbrev pub HaveSameState : List ℕ → List ℕ → Bool → Type 0
HaveSameState a b answer =
    (m : LinkMessage) × (n : LinkMessage) × IsAccepted a m × IsAccepted b n
    × (IsTrue answer ↔ (state (message_text m) ≡ state (message_text n)))

-- what `state_into` did: the state encoding stands at the front and the rest is kept; or nothing was written
abbrev pub IsStateWritten : List ℕ → List ℕ → List ℕ → Result ℕ CanonError → Type 0
IsStateWritten b old new (Ok n) = (m : LinkMessage) × IsAccepted b m × Writes (state (message_text m)) old new n
IsStateWritten b old new (Err e) = IsRefusalAlone b e × (new ≡ old)

-- what `state_within` did: the same, and nothing was written either where the text has more bytes than the buffer
abbrev pub IsStateWithin : List ℕ → List ℕ → List ℕ → Result ℕ RoomError → Type 0
IsStateWithin b old new (Ok n) = (m : LinkMessage) × IsAccepted b m × Writes (state (message_text m)) old new n
IsStateWithin b old new (Err (Rooms.NoEncoding e)) = IsRefusalAlone b e × (new ≡ old)
IsStateWithin b old new (Err (Rooms.NoRoom wanted)) =
    (m : LinkMessage) × IsAccepted b m × (wanted ≡ length (message_text m)) × (length old < wanted) × (new ≡ old)
