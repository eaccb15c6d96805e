-- The refusals and their numbers.
use Rattle.std.specs.Prelude.{◌≡◌, ℕ}
use Rattle.nla_wire.specs.declared.error.Cause.{Cause}
use Rattle.nla_wire.specs.declared.error.Cause.TheVariants as Causes
use Rattle.nla_wire.specs.declared.error.DecodeError.{DecodeError}
use Rattle.link_msg.specs.declared.encoding.CanonError.{CanonError}
use Rattle.link_msg.specs.declared.encoding.RoomError.{RoomError}
use Rattle.link_msg.specs.declared.encoding.RoomError.TheVariants as Rooms
use Rattle.link_msg.specs.declared.encoding.CanonError.TheVariants.{Decode, DoesNotFit, EmptyVfPorts, OutOfMemory}

abbrev pub canon_error_number : CanonError → ℕ
canon_error_number (Decode e) = 1
canon_error_number DoesNotFit = 2
canon_error_number EmptyVfPorts = 3
canon_error_number OutOfMemory = 4

-- the refusal of this cause: lack of memory is a refusal of its own
abbrev pub refusal_for : Cause → DecodeError → CanonError
refusal_for Causes.OutOfMemory e = OutOfMemory
refusal_for _ e = Decode e

abbrev pub refusal_of : DecodeError → CanonError
refusal_of e = refusal_for e.cause e

-- two refusals are one: the same variant, and of bytes that are no message one cause and one name of its place
abbrev pub SameRefusal : CanonError → CanonError → Type 0
SameRefusal (Decode e) (Decode f) = (e.place.now ≡ f.place.now) × (e.cause ≡ f.cause)
SameRefusal a b = (canon_error_number a ≡ canon_error_number b)

-- two refusals of a buffer are one: for want of a text, for the same refusal; or of room, for the same length
abbrev pub SameRoomRefusal : RoomError → RoomError → Type 0
SameRoomRefusal (Rooms.NoEncoding e) (Rooms.NoEncoding f) = SameRefusal e f
SameRoomRefusal (Rooms.NoRoom n) (Rooms.NoRoom m) = n ≡ m
SameRoomRefusal (Rooms.NoEncoding e) (Rooms.NoRoom m) = ⊥
SameRoomRefusal (Rooms.NoRoom n) (Rooms.NoEncoding f) = ⊥
