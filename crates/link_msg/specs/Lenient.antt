-- Lenient reading: an attribute that its table refuses is kept whole, with its number, flags and payload. So frames
-- that fit always mean a message, and a fault is a header that is too short, or a frame that does not fit.
use Rattle.std.specs.Prelude.{◌≡◌, ◌≢◌, ℕ, ◌+◌, ◌-◌, ◌*◌, ◌<◌, ◌≤◌, nat_lt, if◌then◌else◌, List, ◌++◌, ◌⊎◌, length}
use Rattle.std.specs.Prelude.{take, drop, Result, Ok, Err, Bool, MatchBool}
use Rattle.std.specs.List.{AllByRecursion}
use Rattle.nla_wire.specs.Sizes.{growth_per_byte}
use Rattle.nla_wire.specs.Canon.{canons, Writes}
use Rattle.nla_wire.specs.Frames.{Frame, IsBytes, Frames, Fault}
use Rattle.nla_wire.specs.Grammar.{Grammar, list, First}
use Rattle.nla_wire.specs.declared.error.Cause.{Cause}
use Rattle.nla_wire.specs.declared.error.Cause.TheVariants.{TooShort, OutOfMemory}
use Rattle.link_vals.specs.declared.address_family.AddressFamily.{AddressFamily}
use Rattle.link_msg.specs.Header.{header_size, header_of, IsHeader}
use Rattle.link_msg.specs.Tables.{attribute_place, attribute_frame, NotEmptyPorts}
use Rattle.link_msg.specs.Messages.{Means, MessageFits, NoEmptyPorts, message_text, with_header}
use Rattle.link_msg.specs.Canonical.{IsAccepted, HasText, IsUnfit, HasEmptyPorts}
use Rattle.link_msg.specs.declared.attribute.LinkAttribute.{LinkAttribute}
use Rattle.link_msg.specs.declared.attribute.LinkAttribute.TheVariants as Attributes
use Rattle.link_msg.specs.declared.header.LinkHeader.{LinkHeader}
use Rattle.link_msg.specs.declared.message.LinkMessage.{LinkMessage}
use Rattle.link_msg.specs.declared.encoding.RoomError.{RoomError}
use Rattle.link_msg.specs.declared.encoding.RoomError.TheVariants as Rooms
use Rattle.link_msg.specs.declared.encoding.CanonError.{CanonError}
use Rattle.link_msg.specs.declared.encoding.CanonError.TheVariants as Refusals

-- ** messages by any table of attributes

-- b is a header, and frames of which each means the attribute at its place by the table
abbrev pub MeansBy : (AddressFamily → Grammar Frame LinkAttribute) → List ℕ → LinkMessage → Type 0
MeansBy place b m =
    (h : List ℕ) × (c : List ℕ) × (b ≡ h ++ c) × IsHeader h m.header
    × (list (place m.header.interface_family)).means c m.attributes

-- the first fault of b by the table
abbrev pub FaultBy : (AddressFamily → Grammar Frame LinkAttribute) → List ℕ → Cause → Type 0
FaultBy place b c =
    ((length b < header_size) × (c ≡ TooShort (length b) header_size))
    ⊎ ((h : List ℕ) × (d : List ℕ) × (v : LinkHeader) × (b ≡ h ++ d) × IsHeader h v
    × First (place v.interface_family) d c)

abbrev pub read_after_by : (AddressFamily → Grammar Frame LinkAttribute) → LinkHeader → List ℕ
    → Result LinkMessage Cause
read_after_by place v d = with_header v ((list (place v.interface_family)).reads d)

unfoldable pub read_by : (AddressFamily → Grammar Frame LinkAttribute) → List ℕ → Result LinkMessage Cause
read_by place b =
    if nat_lt (length b) header_size then Err (TooShort (length b) header_size)
    else read_after_by place (header_of (take header_size b)) (drop header_size b)

abbrev pub message_by : (AddressFamily → Grammar Frame LinkAttribute) → Grammar (List ℕ) LinkMessage
message_by place = record { means = MeansBy place; bad = FaultBy place; reads = read_by place }

-- ** the lenient table

abbrev pub kept_if_bad : {V : Type 0} → V → Result V Cause → Result V Cause
kept_if_bad kept (Ok v) = Ok v
kept_if_bad kept (Err c) = Ok kept

-- read by g; or kept as it is, where g refuses it
abbrev pub or_kept : {V : Type 0} → (Frame → V) → Grammar Frame V → Grammar Frame V
or_kept {V} other g = record {
  means = λ f v. g.means f v ⊎ (((c : Cause) × g.bad f c) × (v ≡ other f));
  bad = λ f c. ⊥;
  reads = λ f. kept_if_bad (other f) (g.reads f);
}

-- the outermost place, under the header's family
abbrev pub lenient_place : AddressFamily → Grammar Frame LinkAttribute
lenient_place family = or_kept Attributes.Other (attribute_place family)

-- b is a header and then frames, of which each means the attribute at its place, or is refused and kept there
abbrev pub MeansLeniently : List ℕ → LinkMessage → Type 0
MeansLeniently = MeansBy lenient_place

-- b is shorter than a header; or after its header stand frames, and then what begins with none, for this cause
abbrev pub LenientFault : List ℕ → Cause → Type 0
LenientFault b c =
    ((length b < header_size) × (c ≡ TooShort (length b) header_size))
    ⊎ ((h : List ℕ) × (d : List ℕ) × (b ≡ h ++ d) × (length h ≡ header_size)
    × ((fs : List Frame) × Fault d fs c))

-- b means no message leniently
abbrev pub MeansNoneLeniently : List ℕ → Type 0
MeansNoneLeniently b = (m : LinkMessage) → MeansLeniently b m → ⊥

-- ** laws

-- what bytes mean they mean leniently
abbrev pub StrictIsLenient : Type 0
StrictIsLenient = (b : List ℕ) (m : LinkMessage) → Means b m → MeansLeniently b m

-- no bytes mean two messages leniently
abbrev pub OneLenientMeaning : Type 0
OneLenientMeaning = (b : List ℕ) (m n : LinkMessage) → MeansLeniently b m → MeansLeniently b n → m ≡ n

-- sixteen bytes and frames that fit mean a message leniently
abbrev pub FittingIsRead : Type 0
FittingIsRead = (h c : List ℕ) (fs : List Frame) → IsBytes (h ++ c) → length h ≡ header_size → Frames c fs
    → (m : LinkMessage) × MeansLeniently (h ++ c) m

-- what bytes mean leniently its canonical encoding means so
abbrev pub LenientTextMeansTheSame : Type 0
LenientTextMeansTheSame = (b : List ℕ) (m : LinkMessage) → IsBytes b → MeansLeniently b m → MessageFits m
    → NoEmptyPorts m → MeansLeniently (message_text m) m

-- two lenient messages have one canonical encoding exactly where they are one message
abbrev pub SameLenientTextSameMessage : Type 0
SameLenientTextSameMessage =
    (a b : List ℕ) (m n : LinkMessage) → IsBytes a → IsBytes b → MeansLeniently a m → MeansLeniently b n
    → MessageFits m → MessageFits n → NoEmptyPorts m → NoEmptyPorts n
    → ((message_text m ≡ message_text n → m ≡ n) × (m ≡ n → message_text m ≡ message_text n))

-- the lenient canonical encoding of a lenient canonical encoding is itself
abbrev pub LenientTwice : Type 0
LenientTwice =
    (b : List ℕ) (m n : LinkMessage) → IsBytes b → MeansLeniently b m → MessageFits m → NoEmptyPorts m
    → MeansLeniently (message_text m) n → message_text n ≡ message_text m

-- ** canonical encoding

-- b means m leniently, which fits and holds no empty list of ports
pub record IsLenientlyAccepted (b : List ℕ) (m : LinkMessage) : Type 0 where
  pub means : MeansLeniently b m
  pub fits : MessageFits m
  pub ports : NoEmptyPorts m

-- t is the canonical encoding of the message that b means leniently, which it means so too; its attributes are at most
-- `growth_per_byte` times as long
pub record HasLenientText (b t : List ℕ) : Type 0 where
  pub message : LinkMessage
  pub accepted : IsLenientlyAccepted b message
  pub text : t ≡ message_text message
  pub reads_back : MeansLeniently t message
  pub short : length t ≤ header_size + growth_per_byte * (length b - header_size)

-- b means a message leniently that does not fit
abbrev pub IsLenientlyUnfit : List ℕ → Type 0
IsLenientlyUnfit b = (m : LinkMessage) × MeansLeniently b m × (MessageFits m → ⊥)

-- b means a message leniently that fits and holds an empty list of ports
abbrev pub HasLenientPorts : List ℕ → Type 0
HasLenientPorts b = (m : LinkMessage) × MeansLeniently b m × MessageFits m × (NoEmptyPorts m → ⊥)

-- why b has no lenient canonical encoding
abbrev pub IsLenientRefusal : List ℕ → CanonError → Type 0
IsLenientRefusal b (Refusals.Decode e) = LenientFault b e.cause × (e.cause ≢ OutOfMemory) × MeansNoneLeniently b
IsLenientRefusal b Refusals.DoesNotFit = IsLenientlyUnfit b
IsLenientRefusal b Refusals.EmptyVfPorts = HasLenientPorts b
IsLenientRefusal b Refusals.OutOfMemory = Unit {0}

abbrev pub IsLenientRefusalAlone : List ℕ → CanonError → Type 0
IsLenientRefusalAlone b e = IsLenientRefusal b e × (e ≢ Refusals.OutOfMemory)

-- b is leniently accepted with this header and these bytes of attributes, whose text has n bytes
pub record IsLenientlyMeasured (b : List ℕ) (header : LinkHeader) (d : List ℕ) (n : ℕ) : Type 0 where
  pub attributes : List LinkAttribute
  pub accepted : IsLenientlyAccepted b (record { header = header; attributes = attributes })
  pub reads : (list (lenient_place header.interface_family)).reads d ≡ Ok attributes
  pub len : n ≡ length (canons attribute_frame attributes)

-- whether an empty list of ports is among what the bytes mean
abbrev pub TellsPorts : AddressFamily → List ℕ → Bool → Type 0
TellsPorts family d empty = (vs : List LinkAttribute) → (list (lenient_place family)).reads d ≡ Ok vs
    → MatchBool empty (AllByRecursion NotEmptyPorts vs → ⊥) (AllByRecursion NotEmptyPorts vs)

-- the text stands at the front and the rest is kept; or nothing was written
abbrev pub IsLenientlyWithin : List ℕ → List ℕ → List ℕ → Result ℕ RoomError → Type 0
IsLenientlyWithin b old new (Ok n) =
    (m : LinkMessage) × IsLenientlyAccepted b m × Writes (message_text m) old new n
IsLenientlyWithin b old new (Err (Rooms.NoEncoding e)) = IsLenientRefusalAlone b e × (new ≡ old)
IsLenientlyWithin b old new (Err (Rooms.NoRoom wanted)) =
    (m : LinkMessage) × IsLenientlyAccepted b m × (wanted ≡ length (message_text m)) × (length old < wanted)
    × (new ≡ old)

-- the length of the lenient canonical encoding of b, or why there is none
abbrev pub HasLenientLength : List ℕ → Result ℕ CanonError → Type 0
HasLenientLength b (Ok n) = (m : LinkMessage) × IsLenientlyAccepted b m × (n ≡ length (message_text m))
HasLenientLength b (Err e) = IsLenientRefusalAlone b e

-- where b has a lenient canonical encoding, it has at most so many bytes
abbrev pub HoldsLenientText : List ℕ → ℕ → Type 0
HoldsLenientText b room = (m : LinkMessage) → IsLenientlyAccepted b m → length (message_text m) ≤ room

-- what `canonical_lenient_into` did: the encoding stands at the front and the rest is kept; or nothing was written
abbrev pub IsLenientlyWritten : List ℕ → List ℕ → List ℕ → Result ℕ CanonError → Type 0
IsLenientlyWritten b old new (Ok n) =
    (m : LinkMessage) × IsLenientlyAccepted b m × Writes (message_text m) old new n
IsLenientlyWritten b old new (Err e) = IsLenientRefusalAlone b e × (new ≡ old)

-- ** against the strict calls

-- what has a canonical encoding has the same one leniently; what does not fit, or holds an empty list of ports, is
-- refused for the same leniently
pub record SameWhereStrict (b : List ℕ) : Type 0 where
  pub accepted : (m : LinkMessage) → IsAccepted b m → IsLenientlyAccepted b m
  pub text : (t u : List ℕ) → HasText b t → HasLenientText b u → t ≡ u
  pub unfit : IsUnfit b → IsLenientlyUnfit b
  pub ports : HasEmptyPorts b → HasLenientPorts b

abbrev pub StrictAnswersStay : Type 0
StrictAnswersStay = (b : List ℕ) → SameWhereStrict b
