-- What the exported functions return: numbers of at least 0, and refusals as minus their numbers.
use Rattle.std.specs.Prelude.{◌≡◌, ℕ, ℤ, pos, negsuc, suc, Bool, Result, Ok, Err, if◌then◌else◌}
use Rattle.nla_wire.specs.Causes.{cause_number}
use Rattle.link_msg.specs.declared.encoding.CanonError.{CanonError}
use Rattle.link_msg.specs.declared.encoding.CanonError.TheVariants as Canons
use Rattle.link_msg.specs.declared.encoding.RoomError.{RoomError}
use Rattle.link_msg.specs.declared.encoding.RoomError.TheVariants as Rooms
use Rattle.link_c.specs.declared.refusal.Refusal.{Refusal}
use Rattle.link_c.specs.declared.refusal.Refusal.TheVariants.{Fault, Unfit, EmptyPorts, OutOfMemory, NoRoom}
use Rattle.link_c.specs.declared.refusal.Refusal.TheVariants.{UnknownFlag}

abbrev pub refusal_number : Refusal → ℕ
refusal_number (Fault c) = cause_number c
refusal_number Unfit = 16
refusal_number EmptyPorts = 17
refusal_number OutOfMemory = 18
refusal_number NoRoom = 19
refusal_number UnknownFlag = 20

-- a refusal of `canonical` and its kin
abbrev pub of_canon : CanonError → Refusal
of_canon (Canons.Decode e) = Fault e.cause
of_canon Canons.DoesNotFit = Unfit
of_canon Canons.EmptyVfPorts = EmptyPorts
of_canon Canons.OutOfMemory = OutOfMemory

-- a refusal of `canonical_within`
abbrev pub of_room : RoomError → Refusal
of_room (Rooms.NoEncoding e) = of_canon e
of_room (Rooms.NoRoom wanted) = NoRoom

-- what was found holds of the number that a call returned, or of a refusal whose number it returned negated
abbrev pub Says : {A : Type 0} → (A → ℕ) → (Result A Refusal → Type 0) → ℤ → Type 0
Says {A} number says (pos n) = (a : A) × (n ≡ number a) × says (Ok a)
Says number says (negsuc n) = (e : Refusal) × (refusal_number e ≡ suc n) × says (Err e)

-- the number of a length is itself
abbrev pub itself : ℕ → ℕ
itself n = n

-- 1 for yes, 0 for no
abbrev pub as_bit : Bool → ℕ
as_bit answer = if answer then 1 else 0

-- 1 where something was done
abbrev pub as_one : Unit {0} → ℕ
as_one done = 1

-- 0 where nothing was found amiss
abbrev pub as_zero : Unit {0} → ℕ
as_zero fine = 0
