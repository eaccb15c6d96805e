-- A word for each table that opens both of its directions, and one for the text of flags, for `unfolding`.
use Rattle.std.specs.Prelude.{⊤}
use Rattle.link_vals.specs.AddressFamilyTable.{address_family_of, address_family_number}
use Rattle.link_vals.specs.In6AddrGenModeTable.{in6_addr_gen_mode_of, in6_addr_gen_mode_number}
use Rattle.link_vals.specs.LinkEventTable.{link_event_of, link_event_number}
use Rattle.link_vals.specs.LinkExtentMaskTable.{link_extent_mask_of, link_extent_mask_number}
use Rattle.link_vals.specs.LinkLayerTypeTable.{layer_type_of, layer_type_number}
use Rattle.link_vals.specs.LinkModeTable.{link_mode_of, link_mode_number}
use Rattle.link_vals.specs.MctpPhysBindingTable.{mctp_phys_binding_of, mctp_phys_binding_number}
use Rattle.link_vals.specs.StateTable.{state_of, state_number}
use Rattle.link_vals.specs.VfLinkStateTable.{vf_link_state_of, vf_link_state_number}
use Rattle.link_vals.specs.VlanProtocolTable.{vlan_protocol_of, vlan_protocol_number}
use Rattle.link_vals.specs.XdpAttachedTable.{xdp_attached_of, xdp_attached_number}
use Rattle.link_vals.specs.LinkFlagsTable.{link_flags_text}
use Rattle.link_vals.specs.FlagText.{flags_text, names_set}

unfoldable pub address_family : ⊤
unfolding address_family_of address_family_number
address_family = tt

unfoldable pub in6_addr_gen_mode : ⊤
unfolding in6_addr_gen_mode_of in6_addr_gen_mode_number
in6_addr_gen_mode = tt

unfoldable pub link_event : ⊤
unfolding link_event_of link_event_number
link_event = tt

unfoldable pub link_extent_mask : ⊤
unfolding link_extent_mask_of link_extent_mask_number
link_extent_mask = tt

unfoldable pub layer_type : ⊤
unfolding layer_type_of layer_type_number
layer_type = tt

unfoldable pub link_mode : ⊤
unfolding link_mode_of link_mode_number
link_mode = tt

unfoldable pub mctp_phys_binding : ⊤
unfolding mctp_phys_binding_of mctp_phys_binding_number
mctp_phys_binding = tt

unfoldable pub state : ⊤
unfolding state_of state_number
state = tt

unfoldable pub vf_link_state : ⊤
unfolding vf_link_state_of vf_link_state_number
vf_link_state = tt

unfoldable pub vlan_protocol : ⊤
unfolding vlan_protocol_of vlan_protocol_number
vlan_protocol = tt

unfoldable pub xdp_attached : ⊤
unfolding xdp_attached_of xdp_attached_number
xdp_attached = tt

unfoldable pub link_flags : ⊤
unfolding link_flags_text flags_text names_set
link_flags = tt
