-- The header of a link message, sixteen bytes: family at 0, one byte that is not read, layer type at 2, index at 4,
-- flags at 8 and the mask of changed flags at 12 (struct ifinfomsg of linux/rtnetlink.h).
use Rattle.std.specs.Prelude.{◌≡◌, ℕ, List, [], ◌∷◌, ◌++◌, length, slice_index}
use Rattle.std.specs.Int.{w16, w32, to_le_bytes}
use Rattle.nla_wire.specs.Fields.{number_at}
use Rattle.link_vals.specs.AddressFamilyTable.{address_family_of, address_family_number}
use Rattle.link_vals.specs.LinkLayerTypeTable.{layer_type_of, layer_type_number}
use Rattle.link_vals.specs.LinkFlagsTable.{link_flags_of, link_flags_bits}
use Rattle.link_vals.specs.declared.address_family.AddressFamily.TheVariants.{Unspec}
use Rattle.link_vals.specs.declared.link_layer_type.LinkLayerType.TheVariants.{Netrom}
use Rattle.link_msg.specs.declared.header.LinkHeader.{LinkHeader}

-- the size of the header
abbrev pub header_size : ℕ
header_size = 16

-- what these sixteen bytes say
unfoldable pub header_of : List ℕ → LinkHeader
header_of h = record {
  interface_family = address_family_of (slice_index h 0);
  index = number_at w32 h 4;
  link_layer_type = layer_type_of (number_at w16 h 2);
  flags = link_flags_of (number_at w32 h 8);
  change_mask = link_flags_of (number_at w32 h 12);
}

-- h is sixteen bytes that say this header
pub record IsHeader (h : List ℕ) (v : LinkHeader) : Type 0 where
  pub size : length h ≡ header_size
  pub says : v ≡ header_of h

-- the header as it is written: the byte that is not read is zero
unfoldable pub header_bytes : LinkHeader → List ℕ
header_bytes v =
    (address_family_number v.interface_family ∷ 0 ∷ []) ++ to_le_bytes w16 (layer_type_number v.link_layer_type)
    ++ to_le_bytes w32 v.index
    ++ to_le_bytes w32 (link_flags_bits v.flags) ++ to_le_bytes w32 (link_flags_bits v.change_mask)

-- the header of no family, index 0, layer type 0 and no flags
abbrev pub default_header : LinkHeader
default_header = record {
  interface_family = Unspec;
  index = 0;
  link_layer_type = Netrom;
  flags = link_flags_of 0;
  change_mask = link_flags_of 0;
}
