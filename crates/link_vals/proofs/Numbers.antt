-- Numbers to values and back.
use Rattle.std.proofs.Common.{◌≡◌, ◌≢◌, ℕ, ◌<◌, ◌^◌, ◌==◌, Bool, true, false, if◌then◌else◌, List, [], ◌∷◌, refl, sym}
use Rattle.std.proofs.Common.{ap, ◌∙◌, arith}
use Rattle.std.proofs.lemmas.Bool.{eqb-true, ne_eqb}
use Rattle.std.specs.List.{AllByRecursion}
use Rattle.link_vals.specs.Table.{value_of}
use Rattle.link_vals.specs.LinkEventTable.{link_event_of, link_event_number, link_event_listed}
use Rattle.link_vals.specs.LinkExtentMaskTable.{link_extent_mask_of, link_extent_mask_number, link_extent_mask_listed}
use Rattle.link_vals.specs.LinkModeTable.{link_mode_of, link_mode_number, link_mode_listed}
use Rattle.link_vals.specs.StateTable.{state_of, state_number, state_listed}
use Rattle.link_vals.specs.In6AddrGenModeTable.{in6_addr_gen_mode_of, in6_addr_gen_mode_number}
use Rattle.link_vals.specs.In6AddrGenModeTable.{in6_addr_gen_mode_listed}
use Rattle.link_vals.specs.MctpPhysBindingTable.{mctp_phys_binding_of, mctp_phys_binding_number}
use Rattle.link_vals.specs.MctpPhysBindingTable.{mctp_phys_binding_listed}
use Rattle.link_vals.specs.VfLinkStateTable.{vf_link_state_of, vf_link_state_number, vf_link_state_listed}
use Rattle.link_vals.specs.XdpAttachedTable.{xdp_attached_of, xdp_attached_number, xdp_attached_listed}
use Rattle.link_vals.specs.AddressFamilyTable.{address_family_of, address_family_number, address_family_listed}
use Rattle.link_vals.specs.LinkLayerTypeTable.{layer_type_of, layer_type_number, layer_type_listed}
use Rattle.link_vals.specs.VlanProtocolTable.{vlan_protocol_of, vlan_protocol_number, vlan_protocol_listed}
use Rattle.link_vals.specs.declared.link_layer_type.LinkLayerType.{LinkLayerType}
use Rattle.link_vals.specs.declared.link_layer_type.LinkLayerType.TheVariants as layer
use Rattle.link_vals.specs.declared.vlan_protocol.VlanProtocol.{VlanProtocol}
use Rattle.link_vals.specs.declared.vlan_protocol.VlanProtocol.TheVariants as vlan
use Rattle.link_vals.specs.declared.event.LinkEvent.TheVariants as event
use Rattle.link_vals.specs.declared.ext_mask.LinkExtentMask.TheVariants as ext_mask
use Rattle.link_vals.specs.declared.link_mode.LinkMode.TheVariants as link_mode
use Rattle.link_vals.specs.declared.link_state.State.TheVariants as link_state
use Rattle.link_vals.specs.declared.addr_gen_mode.In6AddrGenMode.TheVariants as addr_gen_mode
use Rattle.link_vals.specs.declared.mctp_phys_binding.MctpPhysBinding.TheVariants as mctp_phys_binding
use Rattle.link_vals.specs.declared.vf_link_state.VfLinkState.TheVariants as vf_link_state
use Rattle.link_vals.specs.declared.xdp_attached.XdpAttached.TheVariants as xdp_attached
use Rattle.link_vals.specs.declared.address_family.AddressFamily.TheVariants as address_family

-- the value that was found has the number that was looked for
value_if : {A : Type 0} (number : A → ℕ) (v w : A) (n : ℕ) (same : Bool) → (n == number v) ≡ same → number w ≡ n
    → number (if same then v else w) ≡ n
value_if number v w n true is back = sym (eqb-true n (number v) is)
value_if number v w n false is back = back

pub number-value_of : {A : Type 0} (number : A → ℕ) (listed : List A) (other : A) (n : ℕ) → number other ≡ n
    → number (value_of number listed other n) ≡ n
number-value_of number [] other n back = back
number-value_of number (v ∷ vs) other n back =
    value_if number v (value_of number vs other n) n (n == number v) refl (number-value_of number vs other n back)

pub link_event_again : (n : ℕ) → link_event_number (link_event_of n) ≡ n
unfolding link_event_of link_event_number
link_event_again n = number-value_of link_event_number link_event_listed (event.Other n) n refl

pub link_extent_mask_again : (n : ℕ) → link_extent_mask_number (link_extent_mask_of n) ≡ n
unfolding link_extent_mask_of link_extent_mask_number
link_extent_mask_again n = number-value_of link_extent_mask_number link_extent_mask_listed (ext_mask.Other n) n refl

pub link_mode_again : (n : ℕ) → link_mode_number (link_mode_of n) ≡ n
unfolding link_mode_of link_mode_number
link_mode_again n = number-value_of link_mode_number link_mode_listed (link_mode.Other n) n refl

pub state_again : (n : ℕ) → state_number (state_of n) ≡ n
unfolding state_of state_number
state_again n = number-value_of state_number state_listed (link_state.Other n) n refl

pub in6_addr_gen_mode_again : (n : ℕ) → in6_addr_gen_mode_number (in6_addr_gen_mode_of n) ≡ n
unfolding in6_addr_gen_mode_of in6_addr_gen_mode_number
in6_addr_gen_mode_again n =
    number-value_of in6_addr_gen_mode_number in6_addr_gen_mode_listed (addr_gen_mode.Other n) n refl

pub mctp_phys_binding_again : (n : ℕ) → mctp_phys_binding_number (mctp_phys_binding_of n) ≡ n
unfolding mctp_phys_binding_of mctp_phys_binding_number
mctp_phys_binding_again n =
    number-value_of mctp_phys_binding_number mctp_phys_binding_listed (mctp_phys_binding.Other n) n refl

pub vf_link_state_again : (n : ℕ) → vf_link_state_number (vf_link_state_of n) ≡ n
unfolding vf_link_state_of vf_link_state_number
vf_link_state_again n = number-value_of vf_link_state_number vf_link_state_listed (vf_link_state.Other n) n refl

pub xdp_attached_again : (n : ℕ) → xdp_attached_number (xdp_attached_of n) ≡ n
unfolding xdp_attached_of xdp_attached_number
xdp_attached_again n = number-value_of xdp_attached_number xdp_attached_listed (xdp_attached.Other n) n refl

pub address_family_again : (n : ℕ) → address_family_number (address_family_of n) ≡ n
unfolding address_family_of address_family_number
address_family_again n = number-value_of address_family_number address_family_listed (address_family.Other n) n refl

pub address_family_below : (n k : ℕ) → n < 2 ^ k → address_family_number (address_family_of n) < 2 ^ k
address_family_below n k small = omega (arith, address_family_again n)

-- a number that no listed value has
pub value_of_unlisted : {A : Type 0} (number : A → ℕ) (listed : List A) (other : A) (n : ℕ)
    → AllByRecursion (λ v. number v ≢ n) listed → value_of number listed other n ≡ other
value_of_unlisted number [] other n h = refl
value_of_unlisted number (v ∷ vs) other n h =
    ap (λ b. if b then v else value_of number vs other n) (ne_eqb n (number v) (λ e. h.0 (sym e)))
    ∙ value_of_unlisted number vs other n h.1

pub layer_type_again : (t : LinkLayerType) → layer_type_of (layer_type_number t) ≡ t
unfolding layer_type_of layer_type_number
layer_type_again layer.Netrom = refl
layer_type_again layer.Ether = refl
layer_type_again layer.Eether = refl
layer_type_again layer.Ax25 = refl
layer_type_again layer.Pronet = refl
layer_type_again layer.Chaos = refl
layer_type_again layer.Ieee802 = refl
layer_type_again layer.Arcnet = refl
layer_type_again layer.Appletlk = refl
layer_type_again layer.Dlci = refl
layer_type_again layer.Atm = refl
layer_type_again layer.Metricom = refl
layer_type_again layer.Ieee1394 = refl
layer_type_again layer.Eui64 = refl
layer_type_again layer.Infiniband = refl
layer_type_again layer.Slip = refl
layer_type_again layer.Cslip = refl
layer_type_again layer.Slip6 = refl
layer_type_again layer.Cslip6 = refl
layer_type_again layer.Rsrvd = refl
layer_type_again layer.Adapt = refl
layer_type_again layer.Rose = refl
layer_type_again layer.X25 = refl
layer_type_again layer.Hwx25 = refl
layer_type_again layer.Can = refl
layer_type_again layer.Mctp = refl
layer_type_again layer.Ppp = refl
layer_type_again layer.Hdlc = refl
layer_type_again layer.Lapb = refl
layer_type_again layer.Ddcmp = refl
layer_type_again layer.Rawhdlc = refl
layer_type_again layer.Rawip = refl
layer_type_again layer.Tunnel = refl
layer_type_again layer.Tunnel6 = refl
layer_type_again layer.Frad = refl
layer_type_again layer.Skip = refl
layer_type_again layer.Loopback = refl
layer_type_again layer.Localtlk = refl
layer_type_again layer.Fddi = refl
layer_type_again layer.Bif = refl
layer_type_again layer.Sit = refl
layer_type_again layer.Ipddp = refl
layer_type_again layer.Ipgre = refl
layer_type_again layer.Pimreg = refl
layer_type_again layer.Hippi = refl
layer_type_again layer.Ash = refl
layer_type_again layer.Econet = refl
layer_type_again layer.Irda = refl
layer_type_again layer.Fcpp = refl
layer_type_again layer.Fcal = refl
layer_type_again layer.Fcpl = refl
layer_type_again layer.Fcfabric = refl
layer_type_again layer.Ieee802Tr = refl
layer_type_again layer.Ieee80211 = refl
layer_type_again layer.Ieee80211Prism = refl
layer_type_again layer.Ieee80211Radiotap = refl
layer_type_again layer.Ieee802154 = refl
layer_type_again layer.Ieee802154Monitor = refl
layer_type_again layer.Phonet = refl
layer_type_again layer.PhonetPipe = refl
layer_type_again layer.Caif = refl
layer_type_again layer.Ip6gre = refl
layer_type_again layer.Netlink = refl
layer_type_again layer.Sixlowpan = refl
layer_type_again layer.Vsockmon = refl
layer_type_again layer.None = refl
layer_type_again layer.Void = refl

pub layer_type_unlisted : (n : ℕ) → AllByRecursion (λ t. layer_type_number t ≢ n) layer_type_listed
    → layer_type_of n ≡ layer.Void
unfolding layer_type_of
layer_type_unlisted n h = value_of_unlisted layer_type_number layer_type_listed layer.Void n h

pub layer_type_below : (t : LinkLayerType) → layer_type_number t < 2 ^ 16
unfolding layer_type_number
layer_type_below layer.Netrom = omega arith
layer_type_below layer.Ether = omega arith
layer_type_below layer.Eether = omega arith
layer_type_below layer.Ax25 = omega arith
layer_type_below layer.Pronet = omega arith
layer_type_below layer.Chaos = omega arith
layer_type_below layer.Ieee802 = omega arith
layer_type_below layer.Arcnet = omega arith
layer_type_below layer.Appletlk = omega arith
layer_type_below layer.Dlci = omega arith
layer_type_below layer.Atm = omega arith
layer_type_below layer.Metricom = omega arith
layer_type_below layer.Ieee1394 = omega arith
layer_type_below layer.Eui64 = omega arith
layer_type_below layer.Infiniband = omega arith
layer_type_below layer.Slip = omega arith
layer_type_below layer.Cslip = omega arith
layer_type_below layer.Slip6 = omega arith
layer_type_below layer.Cslip6 = omega arith
layer_type_below layer.Rsrvd = omega arith
layer_type_below layer.Adapt = omega arith
layer_type_below layer.Rose = omega arith
layer_type_below layer.X25 = omega arith
layer_type_below layer.Hwx25 = omega arith
layer_type_below layer.Can = omega arith
layer_type_below layer.Mctp = omega arith
layer_type_below layer.Ppp = omega arith
layer_type_below layer.Hdlc = omega arith
layer_type_below layer.Lapb = omega arith
layer_type_below layer.Ddcmp = omega arith
layer_type_below layer.Rawhdlc = omega arith
layer_type_below layer.Rawip = omega arith
layer_type_below layer.Tunnel = omega arith
layer_type_below layer.Tunnel6 = omega arith
layer_type_below layer.Frad = omega arith
layer_type_below layer.Skip = omega arith
layer_type_below layer.Loopback = omega arith
layer_type_below layer.Localtlk = omega arith
layer_type_below layer.Fddi = omega arith
layer_type_below layer.Bif = omega arith
layer_type_below layer.Sit = omega arith
layer_type_below layer.Ipddp = omega arith
layer_type_below layer.Ipgre = omega arith
layer_type_below layer.Pimreg = omega arith
layer_type_below layer.Hippi = omega arith
layer_type_below layer.Ash = omega arith
layer_type_below layer.Econet = omega arith
layer_type_below layer.Irda = omega arith
layer_type_below layer.Fcpp = omega arith
layer_type_below layer.Fcal = omega arith
layer_type_below layer.Fcpl = omega arith
layer_type_below layer.Fcfabric = omega arith
layer_type_below layer.Ieee802Tr = omega arith
layer_type_below layer.Ieee80211 = omega arith
layer_type_below layer.Ieee80211Prism = omega arith
layer_type_below layer.Ieee80211Radiotap = omega arith
layer_type_below layer.Ieee802154 = omega arith
layer_type_below layer.Ieee802154Monitor = omega arith
layer_type_below layer.Phonet = omega arith
layer_type_below layer.PhonetPipe = omega arith
layer_type_below layer.Caif = omega arith
layer_type_below layer.Ip6gre = omega arith
layer_type_below layer.Netlink = omega arith
layer_type_below layer.Sixlowpan = omega arith
layer_type_below layer.Vsockmon = omega arith
layer_type_below layer.None = omega arith
layer_type_below layer.Void = omega arith

pub vlan_protocol_again : (p : VlanProtocol) → vlan_protocol_of (vlan_protocol_number p) ≡ p
unfolding vlan_protocol_of vlan_protocol_number
vlan_protocol_again vlan.Ieee8021Q = refl
vlan_protocol_again vlan.Ieee8021Ad = refl

pub vlan_protocol_unlisted : (n : ℕ) → AllByRecursion (λ p. vlan_protocol_number p ≢ n) vlan_protocol_listed
    → vlan_protocol_of n ≡ vlan.Ieee8021Q
unfolding vlan_protocol_of
vlan_protocol_unlisted n h = value_of_unlisted vlan_protocol_number vlan_protocol_listed vlan.Ieee8021Q n h
