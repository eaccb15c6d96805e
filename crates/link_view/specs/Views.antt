-- A message over borrowed bytes, and the last attribute of a number.
use Rattle.std.specs.Prelude.{◌≡◌, ℕ, ◌==◌, if◌then◌else◌, List, [], ◌∷◌, Option, None, Some, Result, Ok, Err}
use Rattle.nla_wire.specs.Frames.{Frame, number}
use Rattle.nla_wire.specs.Grammar.{Every}
use Rattle.nla_wire.specs.Items.{Item, all_frames}
use Rattle.nla_wire.specs.declared.error.Cause.{Cause}
use Rattle.nla_wire.specs.declared.error.DecodeError.{DecodeError}
use Rattle.link_vals.specs.declared.address_family.AddressFamily.{AddressFamily}
use Rattle.link_msg.specs.Tables.{attribute_place, attribute_frame}
use Rattle.link_msg.specs.Messages.{read_after}
use Rattle.link_msg.specs.declared.attribute.LinkAttribute.{LinkAttribute}
use Rattle.link_msg.specs.declared.header.LinkHeader.{LinkHeader}
use Rattle.link_msg.specs.declared.message.LinkMessage.{LinkMessage}

-- a header, and the bytes after it
pub record Opened : Type 0 where
  pub header : LinkHeader
  pub list : List ℕ

-- what a reader of messages returns of them
abbrev pub parsed : Opened → Result LinkMessage Cause
parsed v = read_after v.header v.list

-- the last frame of this number, or the one that was found before; or the fault that ends the frames
abbrev pub latest : ℕ → Option Frame → List Item → Result (Option Frame) Cause
latest n found [] = Ok found
latest n found ((Err c) ∷ xs) = Err c
latest n found ((Ok f) ∷ xs) = latest n (if number f == n then Some f else found) xs

-- a frame that is there has this number
abbrev pub HasNumber : ℕ → Option Frame → Type 0
HasNumber n None = Unit {0}
HasNumber n (Some f) = number f ≡ n

-- the last attribute of this number, or the one that was found before
abbrev pub last_of : ℕ → Option LinkAttribute → List LinkAttribute → Option LinkAttribute
last_of n found [] = found
last_of n found (v ∷ vs) = last_of n (if number (attribute_frame v) == n then Some v else found) vs

-- a frame means the attribute, or there is neither
abbrev pub IsMeant : AddressFamily → Option Frame → Option LinkAttribute → Type 0
IsMeant family None None = Unit {0}
IsMeant family None (Some v) = ⊥
IsMeant family (Some f) None = ⊥
IsMeant family (Some f) (Some v) = (attribute_place family).means f v

-- it is the frame of the message's last attribute of this number, or the message has none
abbrev pub IsLastOf : LinkMessage → ℕ → Result (Option Frame) DecodeError → Type 0
IsLastOf m n (Ok found) = IsMeant m.header.interface_family found (last_of n None m.attributes)
IsLastOf m n (Err e) = ⊥

-- they are frames alone, one for each attribute of the message, in order, of which each means its attribute
abbrev pub AreFramesOf : LinkMessage → List Item → Type 0
AreFramesOf m xs = (fs : List Frame) × (xs ≡ all_frames fs)
    × Every (attribute_place m.header.interface_family).means fs m.attributes
