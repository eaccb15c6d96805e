-- An attribute of a number that no line has is kept.
use Rattle.std.proofs.Common.{◌≡◌, length, Ok}
use Rattle.nla_wire.specs.Frames.{Frame, number}
use Rattle.nla_wire.proofs.Tables.{IsOther, other_reads}
use Rattle.link_vals.specs.declared.address_family.AddressFamily.{AddressFamily}
use Rattle.link_msg.specs.Tables.{base, attribute_view, NotEmptyPorts, attribute_entries, attribute_place}
use Rattle.link_msg.specs.declared.attribute.LinkAttribute.TheVariants as Attributes

pub other_read : (family : AddressFamily) (f : Frame)
    → IsOther base attribute_view NotEmptyPorts (attribute_entries family) (number f)
    → (attribute_place family).reads f ≡ Ok (Attributes.Other f)
unfolding attribute_place
other_read family f other =
    other_reads base attribute_view NotEmptyPorts (number f) (length f.payload) (attribute_entries family)
    (λ f. Ok (Attributes.Other f)) f other
