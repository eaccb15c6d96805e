-- Laws of messages, over the definitions alone.
use Rattle.std.specs.Prelude.{◌≡◌, ◌↔◌, ℕ, ◌%◌, ◌^◌, ◌<◌, List, ◌++◌, length}
use Rattle.std.specs.List.{AllByRecursion}
use Rattle.nla_wire.specs.Frames.{Frame, IsBytes}
use Rattle.nla_wire.specs.Grammar.{list}
use Rattle.link_vals.specs.declared.address_family.AddressFamily.{AddressFamily}
use Rattle.link_msg.specs.Tables.{attribute_frame, attribute_place, IsUnlisted}
use Rattle.link_msg.specs.Messages.{Means, message_text, MessageFits, NoEmptyPorts, Meant}
use Rattle.link_msg.specs.declared.attribute.LinkAttribute.{LinkAttribute}
use Rattle.link_msg.specs.declared.message.LinkMessage.{LinkMessage}

-- no bytes mean two messages
abbrev pub OneMeaning : Type 0
OneMeaning = (b : List ℕ) (m n : LinkMessage) → Means b m → Means b n → m ≡ n

-- what bytes mean is what its canonical encoding means, where it fits and holds no empty list of ports
abbrev pub TextMeansTheSame : Type 0
TextMeansTheSame = (b : List ℕ) (m : LinkMessage) → IsBytes b → Means b m → MessageFits m → NoEmptyPorts m
    → Means (message_text m) m

-- the kind of each attribute has two bytes, as every kind in a program has
abbrev pub KindsInRange : LinkMessage → Type 0
KindsInRange m = AllByRecursion (λ v. (attribute_frame v).kind < 2 ^ 16) m.attributes

-- a message that its canonical encoding means is meant by some bytes, and holds no empty list of ports
abbrev pub OnlyWithPorts : Type 0
OnlyWithPorts = (m : LinkMessage) → KindsInRange m → MessageFits m → Means (message_text m) m → Meant m × NoEmptyPorts m

-- two messages have one canonical encoding exactly where they are one message
abbrev pub SameTextSameMessage : Type 0
SameTextSameMessage =
    (a b : List ℕ) (m n : LinkMessage) → IsBytes a → IsBytes b → Means a m → Means b n → MessageFits m → MessageFits n
    → NoEmptyPorts m → NoEmptyPorts n
    → (message_text m ≡ message_text n) ↔ (m ≡ n)

-- the canonical encoding of a canonical encoding is itself
abbrev pub CanonicalTwice : Type 0
CanonicalTwice =
    (b : List ℕ) (m n : LinkMessage) → IsBytes b → Means b m → MessageFits m → NoEmptyPorts m → Means (message_text m) n
    → message_text n ≡ message_text m

-- after a list of attributes whose length is a multiple of four, bytes are read as they are alone
abbrev pub Joined : Type 0
Joined = (family : AddressFamily) (c d : List ℕ) (vs : List LinkAttribute) → length c % 4 ≡ 0
    → (list (attribute_place family)).means c vs
    → ((ws : List LinkAttribute) → (list (attribute_place family)).means d ws
    → (list (attribute_place family)).means (c ++ d) (vs ++ ws))
    × ((us : List LinkAttribute) → (list (attribute_place family)).means (c ++ d) us
    → (ws : List LinkAttribute) × (list (attribute_place family)).means d ws × (us ≡ vs ++ ws))

-- an attribute that no line reads is written as the frame that it was read from: kind, both flag bits, payload
abbrev pub ForeignKept : Type 0
ForeignKept = (family : AddressFamily) (f : Frame) (v : LinkAttribute) → IsUnlisted family f
    → (attribute_place family).means f v → attribute_frame v ≡ f
