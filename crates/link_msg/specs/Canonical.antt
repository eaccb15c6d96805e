-- What `canonical` and its kin return of a byte string.
use Rattle.std.specs.Prelude.{◌≡◌, ◌≢◌, ℕ, ◌+◌, ◌-◌, ◌*◌, ◌<◌, ◌≤◌, ◌⊎◌, ◌↔◌, Bool, IsTrue, MatchBool, Result, Ok}
use Rattle.std.specs.Prelude.{Err, List, length, Option, Some, None}
use Rattle.nla_wire.specs.Sizes.{growth_per_byte}
use Rattle.nla_wire.specs.Grammar.{list}
use Rattle.nla_wire.specs.Canon.{canons, AllFit, Writes}
use Rattle.nla_wire.specs.declared.error.Cause.{Cause}
use Rattle.nla_wire.specs.declared.error.Cause.TheVariants.{OutOfMemory}
use Rattle.std.specs.List.{AllByRecursion}
use Rattle.link_msg.specs.Header.{header_size}
use Rattle.link_msg.specs.Tables.{attribute_frame, AttributeFits, NotEmptyPorts, attribute_place}
use Rattle.link_msg.specs.Prefixes.{IsPrefix}
use Rattle.link_msg.specs.Messages.{Means, FirstFault, MeansNothing, message_text, MessageFits, NoEmptyPorts}
use Rattle.link_vals.specs.declared.address_family.AddressFamily.{AddressFamily}
use Rattle.link_msg.specs.declared.attribute.LinkAttribute.{LinkAttribute}
use Rattle.link_msg.specs.declared.header.LinkHeader.{LinkHeader}
use Rattle.link_msg.specs.declared.message.LinkMessage.{LinkMessage}
use Rattle.link_msg.specs.declared.encoding.RoomError.{RoomError}
use Rattle.link_msg.specs.declared.encoding.RoomError.TheVariants as Rooms
use Rattle.link_msg.specs.declared.encoding.CanonError.{CanonError}
use Rattle.link_msg.specs.declared.encoding.CanonError.TheVariants as Refusals

-- b means m, which fits and holds no empty ports
pub record IsAccepted (b : List ℕ) (m : LinkMessage) : Type 0 where
  pub means : Means b m
  pub fits : MessageFits m
  pub ports : NoEmptyPorts m

-- t is the canonical encoding of the message that b means, which it means too; its attributes are at most
-- `growth_per_byte` times as long
pub record HasText (b t : List ℕ) : Type 0 where
  pub message : LinkMessage
  pub accepted : IsAccepted b message
  pub text : t ≡ message_text message
  pub reads_back : Means t message
  pub short : length t ≤ header_size + growth_per_byte * (length b - header_size)

-- b means a message that does not fit
abbrev pub IsUnfit : List ℕ → Type 0
IsUnfit b = (m : LinkMessage) × Means b m × (MessageFits m → ⊥)

-- b means a message that fits and holds an empty list of ports
abbrev pub HasEmptyPorts : List ℕ → Type 0
HasEmptyPorts b = (m : LinkMessage) × Means b m × MessageFits m × (NoEmptyPorts m → ⊥)

-- why there is no canonical encoding of b; that memory ran out says nothing of it
abbrev pub IsRefusal : List ℕ → CanonError → Type 0
IsRefusal b (Refusals.Decode e) = FirstFault b e.cause × (e.cause ≢ OutOfMemory) × MeansNothing b
IsRefusal b Refusals.DoesNotFit = IsUnfit b
IsRefusal b Refusals.EmptyVfPorts = HasEmptyPorts b
IsRefusal b Refusals.OutOfMemory = Unit {0}

-- both are accepted, and the result is whether they mean the same message, which is whether their texts are equal
pub record AreSameMessages (a b : List ℕ) (m n : LinkMessage) (answer : Bool) : Type 0 where
  pub first : IsAccepted a m
  pub second : IsAccepted b n
  pub messages : IsTrue answer ↔ (m ≡ n)
  pub texts : IsTrue answer ↔ (message_text m ≡ message_text n)

abbrev pub AreSame : List ℕ → List ℕ → Bool → Type 0
AreSame a b answer = (m : LinkMessage) × (n : LinkMessage) × AreSameMessages a b m n answer

-- the first is refused so; or it is accepted, and the second is refused so
abbrev pub IsRefusalOfTwo : List ℕ → List ℕ → CanonError → Type 0
IsRefusalOfTwo a b e = IsRefusal a e ⊎ (((m : LinkMessage) × IsAccepted a m) × IsRefusal b e)

-- a refusal, and not for lack of memory
abbrev pub IsRefusalAlone : List ℕ → CanonError → Type 0
IsRefusalAlone b e = IsRefusal b e × (e ≢ Refusals.OutOfMemory)

-- the length of the canonical encoding of the message that b means, or why there is none
abbrev pub HasLength : List ℕ → Result ℕ CanonError → Type 0
HasLength b (Ok n) = (m : LinkMessage) × IsAccepted b m × (n ≡ length (message_text m))
HasLength b (Err e) = IsRefusalAlone b e

-- where b has a canonical encoding, it has at most so many bytes
abbrev pub HoldsText : List ℕ → ℕ → Type 0
HoldsText b room = (m : LinkMessage) → IsAccepted b m → length (message_text m) ≤ room

-- what `canonical_into` did: the canonical encoding stands at the front and the rest is kept; or nothing was written
abbrev pub IsWritten : List ℕ → List ℕ → List ℕ → Result ℕ CanonError → Type 0
IsWritten b old new (Ok n) = (m : LinkMessage) × IsAccepted b m × Writes (message_text m) old new n
IsWritten b old new (Err e) = IsRefusalAlone b e × (new ≡ old)

-- what `canonical_within` did: the same, and nothing was written either where the text has more bytes than the buffer
abbrev pub IsWithin : List ℕ → List ℕ → List ℕ → Result ℕ RoomError → Type 0
IsWithin b old new (Ok n) = (m : LinkMessage) × IsAccepted b m × Writes (message_text m) old new n
IsWithin b old new (Err (Rooms.NoEncoding e)) = IsRefusalAlone b e × (new ≡ old)
IsWithin b old new (Err (Rooms.NoRoom wanted)) =
    (m : LinkMessage) × IsAccepted b m × (wanted ≡ length (message_text m)) × (length old < wanted) × (new ≡ old)

-- the attributes that are read fit and have so many bytes of text, and whether an empty list of ports is among them; or
-- one does not fit, or none are read
abbrev pub ListWeighs : Result (List LinkAttribute) Cause → Option (ℕ × Bool) → Type 0
ListWeighs (Ok vs) (Some w) =
    AllFit AttributeFits attribute_frame vs × (w.0 ≡ length (canons attribute_frame vs))
    × MatchBool w.1 (AllByRecursion NotEmptyPorts vs → ⊥) (AllByRecursion NotEmptyPorts vs)
ListWeighs (Ok vs) None = AllFit AttributeFits attribute_frame vs → ⊥
ListWeighs (Err c) (Some w) = ⊥
ListWeighs (Err c) None = Unit {0}

-- that of the attributes that bytes are under a family, and how long the copied prefix of them is
abbrev pub ListMeasures : AddressFamily → List ℕ → Option (ℕ × Bool × ℕ) → Type 0
ListMeasures family b (Some w) =
    ListWeighs ((list (attribute_place family)).reads b) (Some (w.0, w.1)) × IsPrefix family b w.2
ListMeasures family b None = ListWeighs ((list (attribute_place family)).reads b) None

-- b is an accepted message with this header and these bytes of attributes, whose text has n bytes
pub record IsMeasured (b : List ℕ) (header : LinkHeader) (d : List ℕ) (n : ℕ) : Type 0 where
  pub attributes : List LinkAttribute
  pub accepted : IsAccepted b (record { header = header; attributes = attributes })
  pub reads : (list (attribute_place header.interface_family)).reads d ≡ Ok attributes
  pub len : n ≡ length (canons attribute_frame attributes)
