-- Which payloads are lists of attributes, and of which place: the attributes of a message as a tree.
use Rattle.std.specs.Prelude.{◌≡◌, ℕ, ◌==◌, Bool, true, false, length}
use Rattle.nla_wire.specs.Frames.{Frame, number}
use Rattle.nla_wire.specs.Grammar.{Grammar, drops}
use Rattle.nla_wire.specs.declared.error.Cause.{Cause}
use Rattle.nla_wire.proofs.Tables.{Way, Kept, Own}
use Rattle.nla_wire.proofs.Tables as tables
use Rattle.link_vals.specs.declared.address_family.AddressFamily.{AddressFamily}
use Rattle.link_nest.specs.Tables.{prop_place, devlink_port_place, dpll_pin_place, down_reason_place, xdp_place}
use Rattle.link_nest.specs.Tables.{link_info_place}
use Rattle.link_vf.specs.Tables.{vf_stats_place, vf_vlan_place, vf_info_place, vf_port_place, link_vf_info_place}
use Rattle.link_vf.specs.Tables.{link_vf_port_place}
use Rattle.link_vf.specs.declared.numbers.TheConstants.{IFLA_VF_STATS, IFLA_VF_VLAN_LIST}
use Rattle.link_afspec.specs.Tables.{af_spec_unspec_place, af_spec_bridge_place, link_proto_info_bridge_place}
use Rattle.link_afspec.specs.Tables.{link_proto_info_inet6_place, af_spec_inet_place, af_spec_inet6_place}
use Rattle.link_afspec.specs.Tables.{af_spec_mctp_place}
use Rattle.link_afspec.specs.declared.numbers.TheConstants.{AF_INET, AF_INET6, AF_MCTP}
use Rattle.link_msg.specs.Tables.{attribute_place, attribute_way}
use Rattle.link_msg.specs.declared.shape.Shape.{Shape}
use Rattle.link_msg.specs.declared.shape.Shape.TheVariants as Shapes

-- what a payload is: no list of attributes; or one, of which these frames are accepted, these are refused and why, and
-- the payload of each is this
pub data Inside : Type 1 where
  Flat : Inside
  Members : (accepts : Frame → Type 0) (refuses : Frame → Cause → Type 0) (inside : Frame → Inside) → Inside

abbrev pub choose : Bool → Inside → Inside → Inside
choose true one other = one
choose false one other = other

-- a frame has a value at the place, or is dropped
abbrev pub Accepts : {V : Type 0} → Bool → Grammar Frame V → Frame → Type 0
Accepts {V} picks place f = drops picks (number f) ≡ false → (v : V) × place.means f v

-- a frame is not dropped, and the place refuses it
abbrev pub Refuses : {V : Type 0} → Bool → Grammar Frame V → Frame → Cause → Type 0
Refuses picks place f c = (drops picks (number f) ≡ false) × place.bad f c

-- a list of members of the place
abbrev pub of_place : {V : Type 0} → Bool → Grammar Frame V → (Frame → Inside) → Inside
of_place picks place inside = Members (Accepts picks place) (Refuses picks place) inside

-- a list of members that hold no further list
abbrev pub leaves : {V : Type 0} → Grammar Frame V → Inside
leaves place = of_place false place (λ f. Flat)

-- ** virtual functions and ports

-- by the number of a member of IFLA_VF_INFO
abbrev pub in_vf_info : ℕ → Inside
in_vf_info n =
    choose (n == IFLA_VF_STATS) (leaves vf_stats_place.grammar)
    (choose (n == IFLA_VF_VLAN_LIST) (leaves vf_vlan_place.grammar) Flat)

-- IFLA_VF_INFO
abbrev pub in_function : Inside
in_function = of_place false vf_info_place.grammar (λ f. in_vf_info (number f))

-- IFLA_VFINFO_LIST
abbrev pub in_functions : Inside
in_functions = of_place true link_vf_info_place.grammar (λ f. in_function)

-- IFLA_VF_PORT, and IFLA_PORT_SELF
abbrev pub in_port : Inside
in_port = leaves vf_port_place.grammar

-- IFLA_VF_PORTS
abbrev pub in_ports : Inside
in_ports = of_place true link_vf_port_place.grammar (λ f. in_port)

-- ** settings by family

-- by the number of a member of IFLA_AF_SPEC
abbrev pub in_family : ℕ → Inside
in_family n =
    choose (n == AF_INET) (leaves af_spec_inet_place.grammar)
    (choose (n == AF_INET6) (leaves af_spec_inet6_place.grammar)
    (choose (n == AF_MCTP) (leaves af_spec_mctp_place.grammar) Flat))

-- IFLA_AF_SPEC of AF_UNSPEC
abbrev pub in_families : Inside
in_families = of_place false af_spec_unspec_place.grammar (λ f. in_family (number f))

-- ** attributes of a message

abbrev pub in_shape : Shape → Inside
in_shape Shapes.Port = in_port
in_shape Shapes.Infos = leaves link_info_place.grammar
in_shape Shapes.Functions = in_functions
in_shape Shapes.Ports = in_ports
in_shape Shapes.Xdps = leaves xdp_place.grammar
in_shape Shapes.Props = leaves prop_place.grammar
in_shape Shapes.Reasons = leaves down_reason_place.grammar
in_shape Shapes.DevlinkPorts = leaves devlink_port_place.grammar
in_shape Shapes.DpllPins = leaves dpll_pin_place.grammar
in_shape Shapes.BridgeInfos = leaves link_proto_info_bridge_place.grammar
in_shape Shapes.Inet6Infos = leaves link_proto_info_inet6_place.grammar
in_shape Shapes.Bridges = leaves af_spec_bridge_place.grammar
in_shape Shapes.Unspecs = in_families
in_shape _ = Flat

abbrev pub in_way : Way Shape → Inside
in_way Kept = Flat
in_way (tables.Shape s) = in_shape s
in_way Own = Flat

-- an attribute of a message whose header has this family
abbrev pub in_attribute : AddressFamily → Frame → Inside
in_attribute family f = in_way (attribute_way family (number f) (length f.payload))

-- the attributes of a message
abbrev pub outermost : AddressFamily → Inside
outermost family = of_place false (attribute_place family) (in_attribute family)
