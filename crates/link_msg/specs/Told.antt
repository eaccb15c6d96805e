-- Refusals: the attributes that lenient reading keeps because they are refused, in order, each with its place.
use Rattle.std.specs.Prelude.{◌≡◌, ℕ, ◌+◌, ◌<◌, ◌⊎◌, List, [], ◌∷◌, ◌++◌, length, take, drop, max}
use Rattle.std.specs.Prelude.{Result, Ok, Err, Option, Some, None}
use Rattle.nla_wire.specs.Frames.{Frame, IsBytes, missing, Frames, Fault}
use Rattle.nla_wire.specs.Items.{Item, items}
use Rattle.nla_wire.specs.declared.error.Cause.{Cause}
use Rattle.nla_wire.specs.declared.error.Cause.TheVariants.{TooShort}
use Rattle.link_vals.specs.declared.address_family.AddressFamily.{AddressFamily}
use Rattle.link_msg.specs.Header.{header_size, header_of, IsHeader}
use Rattle.link_msg.specs.Tables.{attribute_place}
use Rattle.link_msg.specs.Nested.{in_attribute}
use Rattle.link_msg.specs.FaultAt.{FaultIn, LeadsTo}
use Rattle.link_msg.specs.FaultPath.{numbers_to}
use Rattle.link_msg.specs.Lenient.{MeansLeniently}
use Rattle.link_msg.specs.declared.fault_path.FaultPath.{FaultPath}
use Rattle.link_msg.specs.declared.header.LinkHeader.{LinkHeader}
use Rattle.link_msg.specs.declared.message.LinkMessage.{LinkMessage}
use Rattle.link_msg.specs.declared.attribute.LinkAttribute.{LinkAttribute}
use Rattle.link_msg.specs.declared.attribute.LinkAttribute.TheVariants as Attributes

-- an attribute of a message with a header of this family, or bytes that are no frame: where it starts, counted from the
-- front of the message, and why it is refused
pub record Told : Type 0 where
  pub family : AddressFamily
  pub offset : ℕ
  pub frame : Option Frame
  pub cause : Cause

abbrev pub told_of : AddressFamily → ℕ → Option Frame → Cause → Told
told_of family at frame c = record { family = family; offset = at; frame = frame; cause = c }

-- where the frame after one starts
abbrev pub after : ℕ → Frame → ℕ
after at f = at + (4 + length f.payload + missing (length f.payload))

-- ** as a function

-- the refusal of a frame that is read so, if it is one, in front of those that come after it
abbrev pub told_on : AddressFamily → ℕ → Frame → Result LinkAttribute Cause → List Told → List Told
told_on family at f (Ok v) more = more
told_on family at f (Err c) more = told_of family at (Some f) c ∷ more

-- the refusals among items, of which the first starts there
abbrev pub told : AddressFamily → ℕ → List Item → List Told
told family at [] = []
told family at ((Err c) ∷ xs) = told_of family at None c ∷ told family at xs
told family at ((Ok f) ∷ xs) =
    told_on family at f ((attribute_place family).reads f) (told family (after at f) xs)

-- of the attributes of the message b
unfoldable pub told_all : List ℕ → List Told
told_all b = told (header_of (take header_size b)).interface_family header_size (items (drop header_size b))

-- of those from an offset on, or of all where it is inside of the header
unfoldable pub told_from : List ℕ → ℕ → List Told
told_from b from = told (header_of (take header_size b)).interface_family (max from header_size)
    (items (drop (max from header_size) b))

-- how many bytes frames take up with their padding
abbrev pub span : List Item → ℕ
span [] = 0
span ((Err c) ∷ xs) = span xs
span ((Ok f) ∷ xs) = 4 + length f.payload + missing (length f.payload) + span xs

-- what one call of an iterator over a list of them gives
abbrev pub before : Option Told → List Told → List Told
before None more = more
before (Some t) more = t ∷ more

abbrev pub TellsNext : List Told → Option Told → List Told → Type 0
TellsNext old None new = (old ≡ []) × (new ≡ [])
TellsNext old (Some t) new = old ≡ t ∷ new

-- ** as a relation

-- of frames, of which the first starts there, those that are refused; and then the bytes that are no frame, if any are
abbrev pub AreTold : AddressFamily → ℕ → List Frame → Option Cause → List Told → Type 0
AreTold family at [] None ts = ts ≡ []
AreTold family at [] (Some c) ts = ts ≡ told_of family at None c ∷ []
AreTold family at (f ∷ fs) stop ts =
    (((v : LinkAttribute) × (attribute_place family).means f v) × AreTold family (after at f) fs stop ts)
    ⊎ ((c : Cause) × (more : List Told) × (attribute_place family).bad f c
    × (ts ≡ told_of family at (Some f) c ∷ more) × AreTold family (after at f) fs stop more)

-- b is the frames; or they stand in front of bytes that are no frame, for this cause
abbrev pub AreFrames : List ℕ → List Frame → Option Cause → Type 0
AreFrames b fs None = Frames b fs
AreFrames b fs (Some c) = Fault b fs c

-- the refusals of the message b: each attribute that is refused, in order, with its offset from the front of b, and the
-- bytes behind them that are no frame
pub record AreRefusals (b : List ℕ) (ts : List Told) : Type 0 where
  pub header : List ℕ
  pub fields : LinkHeader
  pub attributes : List ℕ
  pub parts : b ≡ header ++ attributes
  pub says : IsHeader header fields
  pub frames : List Frame
  pub stop : Option Cause
  pub cut : AreFrames attributes frames stop
  pub told : AreTold fields.interface_family header_size frames stop ts

-- b is shorter than a header
abbrev pub IsHeaderless : List ℕ → Cause → Type 0
IsHeaderless b c = (length b < header_size) × (c ≡ TooShort (length b) header_size)

-- the path leads to the fault: to bytes that are no frame; to a frame, if its payload is no list that has a fault; or
-- else to that fault
abbrev pub LeadsThere : Told → FaultPath → Type 0
LeadsThere t p =
    LeadsTo (λ f. FaultIn (in_attribute t.family f) f.payload) t.cause t.offset t.frame p.offset (numbers_to p)

-- ** against what is read leniently

-- the frames that are told are those of the attributes that are kept raw, in order
abbrev pub AreRaw : AddressFamily → List LinkAttribute → List Told → Type 0
AreRaw family [] ts = ts ≡ []
AreRaw family (v ∷ vs) ts =
    (((f : Frame) × (attribute_place family).means f v) × AreRaw family vs ts)
    ⊎ ((f : Frame) × (at : ℕ) × (c : Cause) × (more : List Told) × (attribute_place family).bad f c
    × (v ≡ Attributes.Other f) × (ts ≡ told_of family at (Some f) c ∷ more) × AreRaw family vs more)

-- of a message that is read leniently exactly what is kept raw is told
abbrev pub ToldAreRaw : Type 0
ToldAreRaw = (b : List ℕ) (m : LinkMessage) → IsBytes b → MeansLeniently b m
    → AreRaw m.header.interface_family m.attributes (told_all b)
