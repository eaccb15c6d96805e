-- The copied prefix: the attributes in front of a list whose canonical encoding is the bytes that they were read from.
use Rattle.std.specs.Prelude.{◌≡◌, ℕ, ◌+◌, ◌≤◌, List, length, take, drop, replicate, Result, Ok}
use Rattle.std.specs.List.{flat_map, AllByRecursion}
use Rattle.nla_wire.specs.Frames.{Frame, IsBytes, missing}
use Rattle.nla_wire.specs.Reading.{list_of, with_front}
use Rattle.nla_wire.specs.Canon.{canon}
use Rattle.nla_wire.specs.declared.error.Cause.{Cause}
use Rattle.nla_wire.proofs.Codec.{kind_of}
use Rattle.link_vals.specs.declared.address_family.AddressFamily.{AddressFamily}
use Rattle.link_msg.specs.Tables.{base, attribute_frame, AttributeFits, NotEmptyPorts, attribute_place}
use Rattle.link_msg.specs.declared.shape.Shape.{Shape}
use Rattle.link_msg.specs.declared.attribute.LinkAttribute.{LinkAttribute}

-- after n bytes at the front stands all of their padding, and it is zeros
abbrev pub IsPadded : List ℕ → ℕ → Type 0
IsPadded b n = (n + missing n ≤ length b) × (take (missing n) (drop n b) ≡ replicate (missing n) 0)

-- the first bytes of a list are the text of values, and the list is read as these and as what the rest of the bytes is
-- read as, be it a fault
pub record TextPrefix {V : Type 0} (read : Frame → Result V Cause) (text : V → List ℕ) (b : List ℕ)
    (prefix : ℕ) : Type 0 where
  pub front : List V
  pub parts : with_front front (list_of read (drop prefix b)) ≡ list_of read b
  pub text_is : flat_map text front ≡ take prefix b
  pub within : prefix ≤ length b

abbrev pub attribute_text : LinkAttribute → List ℕ
attribute_text v = canon (attribute_frame v)

abbrev pub IsPrefix : AddressFamily → List ℕ → ℕ → Type 0
IsPrefix family b prefix = TextPrefix (attribute_place family).reads attribute_text b prefix

-- a payload of this shape that is as long as its text is that text, and its number is written without flags
pub record IsCopied (s : Shape) : Type 0 where
  pub text_is : (p : List ℕ) (x : (base s).A) → IsBytes p → (base s).codec.grammar.reads p ≡ Ok x
      → length ((base s).codec.encoding x) ≡ length p → (base s).codec.encoding x ≡ p
  pub kind_is : (n : ℕ) → kind_of (base s).flags n ≡ n

-- it fits, and is no empty list of ports
abbrev pub CanBeWritten : LinkAttribute → Type 0
CanBeWritten v = AttributeFits v × NotEmptyPorts v

-- the frame is read as a value whose canonical encoding is the frame
abbrev pub IsOwnText : AddressFamily → Frame → Type 0
IsOwnText family f =
    (v : LinkAttribute) × ((attribute_place family).reads f ≡ Ok v) × CanBeWritten v × (attribute_text v ≡ canon f)

-- the first bytes are attributes that are canonical as they are spelled
abbrev pub IsCopiedPrefix : AddressFamily → List ℕ → ℕ → Type 0
IsCopiedPrefix family b prefix = (r : IsPrefix family b prefix) × AllByRecursion CanBeWritten r.front
