-- What is read of a message in front of the first fault of its attributes.
use Rattle.std.specs.Prelude.{◌≡◌, ℕ, ◌<◌, false, List, ◌++◌, length, Option, None, Some}
use Rattle.nla_wire.specs.Frames.{Frame}
use Rattle.nla_wire.specs.Grammar.{list}
use Rattle.nla_wire.specs.declared.error.Cause.{Cause}
use Rattle.nla_wire.specs.declared.error.Cause.TheVariants.{TooShort}
use Rattle.nla_wire.specs.declared.error.DecodeError.{DecodeError}
use Rattle.link_vals.specs.declared.address_family.AddressFamily.{AddressFamily}
use Rattle.link_msg.specs.Header.{header_size, IsHeader}
use Rattle.link_msg.specs.Tables.{attribute_place}
use Rattle.link_msg.specs.Messages.{Means, FirstFault}
use Rattle.link_msg.specs.Nested.{Accepts, Refuses}
use Rattle.link_msg.specs.FaultAt.{AllAccepted, IsFirstFault}
use Rattle.link_msg.specs.declared.message.LinkMessage.{LinkMessage}

-- the first fault of attributes under a family
abbrev pub FaultOf : AddressFamily → List ℕ → Cause → ℕ → Option Frame → Type 0
FaultOf family d c at frame =
    IsFirstFault (Accepts false (attribute_place family)) (Refuses false (attribute_place family)) d c at frame

-- so many bytes of d stand in front of its first fault; or d has none, and they are all
abbrev pub IsFront : AddressFamily → List ℕ → ℕ → Option DecodeError → Type 0
IsFront family d n None = AllAccepted (Accepts false (attribute_place family)) d × (n ≡ length d)
IsFront family d n (Some e) = (frame : Option Frame) × FaultOf family d e.cause n frame

-- a header with attributes after it, of which the first fault has this cause; and the message has that header, and what
-- the attributes in front of the fault mean
pub record ReadsBefore (b : List ℕ) (c : Cause) (m : LinkMessage) : Type 0 where
  pub header : List ℕ
  pub attributes : List ℕ
  pub parts : b ≡ header ++ attributes
  pub says : IsHeader header m.header
  pub at : ℕ
  pub frame : Option Frame
  pub fault : FaultOf m.header.interface_family attributes c at frame
  pub before : (list (attribute_place m.header.interface_family)).means fault.before m.attributes

-- b means the message; or it has this fault, and the message is what is read in front of it
abbrev pub IsBefore : List ℕ → LinkMessage → Option DecodeError → Type 0
IsBefore b m None = Means b m
IsBefore b m (Some e) = FirstFault b e.cause × ReadsBefore b e.cause m

-- b is shorter than a header
abbrev pub HasNoHeader : List ℕ → Cause → Type 0
HasNoHeader b c = (length b < header_size) × (c ≡ TooShort (length b) header_size)
