-- The outermost place as a table (linux/if_link.h).
--
-- A line says three things of an attribute: its number, what its payload is, and the variant that the value becomes.
-- The lines stand in the order in which the variants are declared, and `keeps` is for frames that no line reads. What
-- the header's family decides stands below the table, in `proto_info` and `af_spec`: the variants of these two numbers
-- are only `written` in the table. Of a payload the table has the shape: a state, a mode and a plain number of one byte
-- are one shape.
use Rattle.std.specs.Prelude.{◌≡◌, ◌==◌, ℕ, ℤ, ◌+◌, ◌*◌, ◌/◌, ◌<◌, ◌≤◌, ◌^◌, not, Bool, true, false, List, [], ◌∷◌}
use Rattle.std.specs.Prelude.{◌++◌, length, Option, None, Some, refl}
use Rattle.std.specs.Int.{w8, w16, w32, to_le_bytes, cast_signed}
use Rattle.std.proofs.Common.{ap, sym, subst, lit<, lit≤, arith}
use lib.Dec.{T}
use Rattle.nla_wire.specs.Sizes.{most_payload, plain_growth, growth, attribute_small}
use Rattle.nla_wire.specs.Frames.{Frame, number, IsBytes}
use Rattle.nla_wire.specs.Grammar.{Grammar, as_a, undecoded}
use Rattle.nla_wire.specs.Payloads as payload
use Rattle.nla_wire.specs.Canon.{canon}
use Rattle.nla_wire.proofs.Lawful.{LawfulPayload, LawfulPlace, always, none, through_lawful, filled_lawful}
use Rattle.nla_wire.proofs.Lawful.{encoding_bounded}
use Rattle.nla_wire.proofs.FieldLemmas.{from_le_bytes_below, length-to_le_bytes}
use Rattle.nla_wire.proofs.PlaceLaws.{all_always}
use Rattle.nla_wire.proofs.Codec as codec
use Rattle.nla_wire.proofs.Codec.{Any, any, nested, Codec, kind_of, list_of, some_of, some_picked_of, enum}
use Rattle.nla_wire.proofs.Codec.{filled_record, sized_record, signed_same}
use Rattle.nla_wire.proofs.Tables.{Seen, Way, Kept, Shaped, plain, standing, Reading, Entry, shaping, keeping, lines}
use Rattle.nla_wire.proofs.Tables.{way_in, all_hold, lines_lawful, lined_lawful}
use Rattle.nla_wire.proofs.Tables as tables
use Rattle.nla_wire.proofs.Variants.{Table, view_of, entries_of, line_by as line, line_where, line_of_size, written}
use Rattle.nla_wire.proofs.Variants.{keeps, ◌&◌}
use Rattle.link_vals.specs.StateTable.{state_of, state_number}
use Rattle.link_vals.specs.LinkModeTable.{link_mode_of, link_mode_number}
use Rattle.link_vals.specs.LinkEventTable.{link_event_of, link_event_number}
use Rattle.link_vals.specs.LinkExtentMaskTable.{ext_list, ext_sum}
use Rattle.link_vals.specs.LinkPhysIdBytes.{phys_id_of, phys_id_bytes}
use Rattle.link_vals.proofs.Numbers.{state_again, link_mode_again, link_event_again}
use Rattle.link_vals.proofs.ExtentSums.{sums_back}
use Rattle.link_vals.proofs.PhysIds.{phys_id_len_le, phys_id_again, length-phys_id_bytes}
use Rattle.link_vals.specs.declared.link_state.State.{State}
use Rattle.link_vals.specs.declared.link_mode.LinkMode.{LinkMode}
use Rattle.link_vals.specs.declared.event.LinkEvent.{LinkEvent}
use Rattle.link_vals.specs.declared.ext_mask.LinkExtentMask.{LinkExtentMask}
use Rattle.link_vals.specs.declared.phys_id.LinkPhysId.{LinkPhysId}
use Rattle.link_vals.specs.declared.address_family.AddressFamily.{AddressFamily}
use Rattle.link_vals.specs.declared.address_family.AddressFamily.TheVariants as Families
use Rattle.link_recs.specs.StatsFields.{stats_laws}
use Rattle.link_recs.specs.Stats64Fields.{stats64_laws}
use Rattle.link_recs.specs.MapFields.{map_laws}
use Rattle.link_nest.specs.Tables.{prop_place, devlink_port_place, dpll_pin_place, down_reason_place, xdp_place}
use Rattle.link_nest.specs.Tables.{link_info_place}
use Rattle.link_nest.specs.Wireless.{wireless_event, wireless_encoding, WirelessFits}
use Rattle.link_nest.specs.WirelessLaws.{wireless_lawful}
use Rattle.link_nest.specs.declared.wireless.WirelessEvent.{WirelessEvent}
use Rattle.link_vf.specs.Tables.{vf_info_place, vf_port_place, link_vf_info_place, vf_info_list, link_vf_port}
use Rattle.link_vf.specs.Tables.{link_vf_port_place, link_vf_port_ones}
use Rattle.link_vf.specs.declared.port_list.LinkVfPort.{LinkVfPort}
use Rattle.link_afspec.specs.Tables.{af_spec_unspec_place, af_spec_bridge_place, link_proto_info_bridge_place}
use Rattle.link_afspec.specs.Tables.{link_proto_info_inet6_place}
use Rattle.link_recs.specs.declared.stats.Stats.{Stats}
use Rattle.link_recs.specs.declared.stats64.Stats64.{Stats64}
use Rattle.link_recs.specs.declared.map.Map.{Map}
use Rattle.link_nest.specs.declared.prop_list.Prop.{Prop}
use Rattle.link_nest.specs.declared.devlink_port.DevlinkPort.{DevlinkPort}
use Rattle.link_nest.specs.declared.dpll_pin.DpllPin.{DpllPin}
use Rattle.link_nest.specs.declared.down_reason.LinkProtocolDownReason.{LinkProtocolDownReason}
use Rattle.link_nest.specs.declared.xdp.LinkXdp.{LinkXdp}
use Rattle.link_nest.specs.declared.link_info.LinkInfo.{LinkInfo}
use Rattle.link_vf.specs.declared.vf_list.LinkVfInfo.{LinkVfInfo}
use Rattle.link_afspec.specs.declared.unspec.AfSpecUnspec.{AfSpecUnspec}
use Rattle.link_afspec.specs.declared.bridge.AfSpecBridge.{AfSpecBridge}
use Rattle.link_afspec.specs.declared.proto_bridge.LinkProtoInfoBridge.{LinkProtoInfoBridge}
use Rattle.link_afspec.specs.declared.proto_inet6.LinkProtoInfoInet6.{LinkProtoInfoInet6}
use Rattle.link_msg.specs.declared.numbers.TheConstants as kernel
use Rattle.link_msg.specs.declared.shape.Shape.{Shape}
use Rattle.link_msg.specs.declared.shape.Shape.TheVariants as Shapes
use Rattle.link_msg.specs.declared.attribute.LinkAttribute.{LinkAttribute}
use Rattle.link_msg.specs.declared.attribute.LinkAttribute.TheVariants as Attributes
use Rattle.link_msg.specs.contracts.attribute.LinkAttribute.{enum as attributes}

-- ** payloads

-- a truth value as a number of one byte: 0 is false
abbrev pub truth_number : Bool → ℕ
truth_number true = 1
truth_number false = 0

abbrev pub is_true : ℕ → Bool
is_true n = not (n == 0)

truth_below : (v : Bool) → truth_number v < 2 ^ 8
truth_below true = lit< tt
truth_below false = lit< tt

truth_again : (v : Bool) → is_true (truth_number v) ≡ v
truth_again true = refl
truth_again false = refl

pub truth_lawful : LawfulPayload (as_a is_true (payload.number_of w8))
    (λ v. to_le_bytes w8 (truth_number v)) always always none plain_growth 0 most_payload
truth_lawful = through_lawful w8 is_true truth_number always most_payload
    (λ x below. (truth_below (is_true x), truth_again (is_true x), tt))

-- the first 32 bytes of the payload
pub phys_id_lawful : LawfulPayload (payload.filled phys_id_of) phys_id_bytes
    (λ id. id.len ≤ 32) always none 36 0 most_payload
phys_id_lawful = filled_lawful phys_id_of phys_id_bytes (λ id. id.len ≤ 32) 32 36 0 most_payload (lit≤ tt) (lit≤ tt)
    (λ p. omega (arith, length-phys_id_bytes p)) (λ p small. phys_id_again p) (λ p small. phys_id_len_le p)

abbrev pub phys_ids : Codec LinkPhysId
phys_ids = record {
  grammar = payload.filled phys_id_of;
  encoding = phys_id_bytes;
  Inside = λ id. id.len ≤ 32;
  count = none;
  factor = 36;
  fewer = 0;
  enough = most_payload;
  lawful = phys_id_lawful;
  sure = None;
}

-- the list of the flags of a number of four bytes, written as their sum
pub ext_mask_lawful : LawfulPayload (as_a ext_list (payload.number_of w32)) (λ flags. to_le_bytes w32 (ext_sum flags))
    (λ flags. ext_sum flags < 2 ^ 32) always none plain_growth 0 most_payload
ext_mask_lawful = through_lawful w32 ext_list ext_sum (λ flags. ext_sum flags < 2 ^ 32) most_payload
    (λ x below. (omega (arith, sums_back x below), ap ext_list (sums_back x below), omega (arith, sums_back x below)))

abbrev pub ext_masks : Codec (List LinkExtentMask)
ext_masks = record {
  grammar = as_a ext_list (payload.number_of w32);
  encoding = λ flags. to_le_bytes w32 (ext_sum flags);
  Inside = λ flags. ext_sum flags < 2 ^ 32;
  count = none;
  factor = plain_growth;
  fewer = 0;
  enough = most_payload;
  lawful = ext_mask_lawful;
  sure = None;
}

pub wireless_fitting
    : LawfulPayload wireless_event wireless_encoding WirelessFits always none plain_growth 0 most_payload
wireless_fitting =
    let h = wireless_lawful most_payload (lit≤ tt) in
    record {
      agrees = h.agrees;
      no_memory = h.no_memory;
      back = λ p v small means fits good. h.back p v small means tt tt;
      counted = h.counted;
      bounded = h.bounded;
      small = λ p v short small means. let s = h.small p v short small means in (s.0, s.0);
    }

abbrev pub wireless_events : Codec WirelessEvent
wireless_events = record {
  grammar = wireless_event;
  encoding = wireless_encoding;
  Inside = WirelessFits;
  count = none;
  factor = plain_growth;
  fewer = 0;
  enough = most_payload;
  lawful = wireless_fitting;
  sure = None;
}

-- ** shapes, and what stands for the value of one

abbrev pub bridge_infos : Codec (List LinkProtoInfoBridge)
bridge_infos = some_of link_proto_info_bridge_place

abbrev pub inet6_infos : Codec (List LinkProtoInfoInet6)
inet6_infos = some_of link_proto_info_inet6_place

abbrev pub bridges : Codec (List AfSpecBridge)
bridges = some_of af_spec_bridge_place

abbrev pub unspecs : Codec (List AfSpecUnspec)
unspecs = list_of af_spec_unspec_place

abbrev pub base : Shape → Any
base Shapes.Bytes = any codec.bytes
base Shapes.Text = any codec.text
base Shapes.U8 = any codec.u8
base Shapes.U16 = any codec.u16
base Shapes.U32 = any codec.u32
base Shapes.Truth = any
    (codec.flat (as_a is_true (payload.number_of w8)) (λ v. to_le_bytes w8 (truth_number v)) most_payload truth_lawful)
base Shapes.Id = any phys_ids
base Shapes.Stats = any (filled_record stats_laws.laws (lit≤ tt))
base Shapes.Stats64 = any (filled_record stats64_laws.laws (lit≤ tt))
base Shapes.Map = any (sized_record map_laws (lit≤ tt))
base Shapes.Event = any wireless_events
base Shapes.Port = any link_vf_port
base Shapes.Infos = any (some_of link_info_place)
base Shapes.Functions = any vf_info_list
base Shapes.Ports = any (some_picked_of link_vf_port_place link_vf_port_ones)
base Shapes.Xdps = any (some_of xdp_place)
base Shapes.Props = nested (list_of prop_place)
base Shapes.Reasons = any (list_of down_reason_place)
base Shapes.DevlinkPorts = nested (list_of devlink_port_place)
base Shapes.DpllPins = nested (list_of dpll_pin_place)
base Shapes.BridgeInfos = nested bridge_infos
base Shapes.Inet6Infos = nested inet6_infos
base Shapes.Bridges = any bridges
base Shapes.Unspecs = any unspecs

abbrev pub by_shape : (s : Shape) → Shaped base (base s).A (base s).Good
by_shape s = plain base s

abbrev pub bytes : Shaped base (List ℕ) always
bytes = by_shape Shapes.Bytes

abbrev pub text : Shaped base (List ℕ) always
text = by_shape Shapes.Text

abbrev pub u8 : Shaped base ℕ always
u8 = by_shape Shapes.U8

abbrev pub u16 : Shaped base ℕ always
u16 = by_shape Shapes.U16

abbrev pub u32 : Shaped base ℕ always
u32 = by_shape Shapes.U32

abbrev pub i32 : Shaped base ℤ always
i32 = standing base Shapes.U32 (cast_signed w32) codec.i32 (λ p. refl) (signed_same w32) (λ x. tt) (λ a. tt)

abbrev pub oper_state : Shaped base State always
oper_state = standing base Shapes.U8 state_of (enum w8 state_of state_number state_again) (λ p. refl)
    (λ p x small means. ap (to_le_bytes w8) (state_again x)) (λ x. tt) (λ a. tt)

abbrev pub mode : Shaped base LinkMode always
mode = standing base Shapes.U8 link_mode_of (enum w8 link_mode_of link_mode_number link_mode_again) (λ p. refl)
    (λ p x small means. ap (to_le_bytes w8) (link_mode_again x)) (λ x. tt) (λ a. tt)

abbrev pub link_event : Shaped base LinkEvent always
link_event = standing base Shapes.U32 link_event_of (enum w32 link_event_of link_event_number link_event_again)
    (λ p. refl) (λ p x small means. ap (to_le_bytes w32) (link_event_again x)) (λ x. tt) (λ a. tt)

abbrev pub truth : Shaped base Bool always
truth = by_shape Shapes.Truth

abbrev pub phys_id : Shaped base LinkPhysId always
phys_id = by_shape Shapes.Id

abbrev pub stats : Shaped base Stats always
stats = by_shape Shapes.Stats

abbrev pub stats64 : Shaped base Stats64 always
stats64 = by_shape Shapes.Stats64

abbrev pub map : Shaped base Map always
map = by_shape Shapes.Map

mask_below : (p : List ℕ) (x : ℕ) → IsBytes p → (payload.number_of w32).means p x → x < 2 ^ 32
mask_below p x small means = subst (λ n. n < 2 ^ 32) (sym means.1) (from_le_bytes_below w32 p small)

-- the sum of the flags of a number is that number
pub mask_same : (p : List ℕ) (x : ℕ) → IsBytes p → (payload.number_of w32).means p x
    → to_le_bytes w32 (ext_sum (ext_list x)) ≡ to_le_bytes w32 x
mask_same p x small means = ap (to_le_bytes w32) (sums_back x (mask_below p x small means))

pub mask_fits : (p : List ℕ) (x : ℕ) → IsBytes p → (payload.number_of w32).means p x → ext_sum (ext_list x) < 2 ^ 32
mask_fits p x small means = omega (arith, sums_back x (mask_below p x small means), mask_below p x small means)

abbrev pub ext_mask : Shaped base (List LinkExtentMask) always
ext_mask = record {
  shape = Shapes.U32;
  codec = ext_masks;
  wrap = ext_list;
  reads = λ p. refl;
  encoding_is = mask_same;
  inside = λ p x small means fits. tt;
  outside = λ p x small means fits. mask_fits p x small means;
}

abbrev pub wireless : Shaped base WirelessEvent always
wireless = by_shape Shapes.Event

abbrev pub port : Shaped base LinkVfPort always
port = by_shape Shapes.Port

abbrev pub infos : Shaped base (List LinkInfo) always
infos = by_shape Shapes.Infos

abbrev pub functions : Shaped base (List LinkVfInfo) always
functions = by_shape Shapes.Functions

abbrev pub xdps : Shaped base (List LinkXdp) always
xdps = by_shape Shapes.Xdps

abbrev pub props : Shaped base (List Prop) always
props = by_shape Shapes.Props

abbrev pub reasons : Shaped base (List LinkProtocolDownReason) always
reasons = by_shape Shapes.Reasons

abbrev pub devlink_ports : Shaped base (List DevlinkPort) always
devlink_ports = by_shape Shapes.DevlinkPorts

abbrev pub dpll_pins : Shaped base (List DpllPin) always
dpll_pins = by_shape Shapes.DpllPins

abbrev pub ports : Shaped base (List LinkVfPort) (base Shapes.Ports).Good
ports = by_shape Shapes.Ports

-- ** the table

-- it is no empty list of ports, whose text would be refused
abbrev pub NotEmptyPorts : LinkAttribute → Type 0
NotEmptyPorts (Attributes.VfPorts ports) = 0 < length ports
NotEmptyPorts _ = Unit {0}

abbrev pub attribute_table : Table base attributes NotEmptyPorts
attribute_table =
    line kernel.IFLA_ADDRESS bytes Attributes.Address
    & line kernel.IFLA_BROADCAST bytes Attributes.Broadcast
    & line kernel.IFLA_IFNAME text Attributes.IfName
    & line kernel.IFLA_MTU u32 Attributes.Mtu
    & line kernel.IFLA_LINK u32 Attributes.Link
    & line kernel.IFLA_QDISC text Attributes.Qdisc
    & line kernel.IFLA_STATS stats Attributes.Stats
    & line kernel.IFLA_MASTER u32 Attributes.Controller
    & line kernel.IFLA_WIRELESS wireless Attributes.Wireless
    & written (kind_of true kernel.IFLA_PROTINFO) bridge_infos Attributes.ProtoInfoBridge
    & written (kind_of true kernel.IFLA_PROTINFO) inet6_infos Attributes.ProtoInfoInet6
    & keeps Attributes.ProtoInfoUnknown
    & line kernel.IFLA_TXQLEN u32 Attributes.TxQueueLen
    & line kernel.IFLA_MAP map Attributes.Map
    & line kernel.IFLA_OPERSTATE oper_state Attributes.OperState
    & line kernel.IFLA_LINKMODE mode Attributes.Mode
    & line kernel.IFLA_LINKINFO infos Attributes.LinkInfo
    & line kernel.IFLA_NET_NS_PID u32 Attributes.NetNsPid
    & line kernel.IFLA_IFALIAS text Attributes.IfAlias
    & line kernel.IFLA_NUM_VF u32 Attributes.NumVf
    & line kernel.IFLA_VFINFO_LIST functions Attributes.VfInfoList
    & line kernel.IFLA_STATS64 stats64 Attributes.Stats64
    & line_where kernel.IFLA_VF_PORTS ports Attributes.VfPorts (λ a good. (good, all_always a))
    & line kernel.IFLA_PORT_SELF port Attributes.PortSelf
    & written kernel.IFLA_AF_SPEC bridges Attributes.AfSpecBridge
    & written kernel.IFLA_AF_SPEC unspecs Attributes.AfSpecUnspec
    & written kernel.IFLA_AF_SPEC codec.bytes Attributes.AfSpecUnknown
    & line kernel.IFLA_GROUP u32 Attributes.Group
    & line kernel.IFLA_NET_NS_FD i32 Attributes.NetNsFd
    & line kernel.IFLA_EXT_MASK ext_mask Attributes.ExtMask
    & line kernel.IFLA_PROMISCUITY u32 Attributes.Promiscuity
    & line kernel.IFLA_NUM_TX_QUEUES u32 Attributes.NumTxQueues
    & line kernel.IFLA_NUM_RX_QUEUES u32 Attributes.NumRxQueues
    & line kernel.IFLA_CARRIER u8 Attributes.Carrier
    & line kernel.IFLA_PHYS_PORT_ID phys_id Attributes.PhysPortId
    & line kernel.IFLA_CARRIER_CHANGES u32 Attributes.CarrierChanges
    & line kernel.IFLA_PHYS_SWITCH_ID phys_id Attributes.PhysSwitchId
    & line kernel.IFLA_LINK_NETNSID i32 Attributes.LinkNetNsId
    & line kernel.IFLA_PHYS_PORT_NAME text Attributes.PhysPortName
    & line kernel.IFLA_PROTO_DOWN u8 Attributes.ProtoDown
    & line kernel.IFLA_GSO_MAX_SEGS u32 Attributes.GsoMaxSegs
    & line kernel.IFLA_GSO_MAX_SIZE u32 Attributes.GsoMaxSize
    & line kernel.IFLA_XDP xdps Attributes.Xdp
    & line kernel.IFLA_EVENT link_event Attributes.Event
    & line kernel.IFLA_NEW_NETNSID i32 Attributes.NewNetnsId
    & line kernel.IFLA_IF_NETNSID i32 Attributes.IfNetnsId
    & line kernel.IFLA_CARRIER_UP_COUNT u32 Attributes.CarrierUpCount
    & line kernel.IFLA_CARRIER_DOWN_COUNT u32 Attributes.CarrierDownCount
    & line kernel.IFLA_NEW_IFINDEX i32 Attributes.NewIfIndex
    & line kernel.IFLA_MIN_MTU u32 Attributes.MinMtu
    & line kernel.IFLA_MAX_MTU u32 Attributes.MaxMtu
    & line kernel.IFLA_PROP_LIST props Attributes.PropList
    & line kernel.IFLA_PERM_ADDRESS bytes Attributes.PermAddress
    & line kernel.IFLA_PROTO_DOWN_REASON reasons Attributes.ProtoDownReason
    & line kernel.IFLA_PARENT_DEV_NAME text Attributes.ParentDevName
    & line kernel.IFLA_PARENT_DEV_BUS_NAME text Attributes.ParentDevBusName
    & line kernel.IFLA_GRO_MAX_SIZE u32 Attributes.GroMaxSize
    & line kernel.IFLA_TSO_MAX_SIZE u32 Attributes.TsoMaxSize
    & line kernel.IFLA_TSO_MAX_SEGS u32 Attributes.TsoMaxSegs
    & line kernel.IFLA_ALLMULTI u32 Attributes.AllMulticast
    & line kernel.IFLA_DEVLINK_PORT devlink_ports Attributes.DevlinkPort
    & line kernel.IFLA_GSO_IPV4_MAX_SIZE u32 Attributes.GsoIpv4MaxSize
    & line kernel.IFLA_GRO_IPV4_MAX_SIZE u32 Attributes.GroIpv4MaxSize
    & line kernel.IFLA_DPLL_PIN dpll_pins Attributes.DpllPin
    & line kernel.IFLA_NETNS_IMMUTABLE truth Attributes.NetnsImmutable
    & line_of_size kernel.IFLA_HEADROOM 2 u16 Attributes.Headroom (length-to_le_bytes w16)
    & line_of_size kernel.IFLA_TAILROOM 2 u16 Attributes.Tailroom (length-to_le_bytes w16)
    & keeps Attributes.Other
    & tt

unfoldable pub attribute_view : LinkAttribute → Seen
attribute_view = view_of base attributes NotEmptyPorts attribute_table

-- the frame that an attribute is written as
abbrev pub attribute_frame : LinkAttribute → Frame
attribute_frame = tables.frame_of base attribute_view NotEmptyPorts

-- what is inside of it fits
abbrev pub InsideFits : LinkAttribute → Type 0
InsideFits v = (attribute_view v).Inside

-- its value has at most 65531 bytes, and what is inside of it fits
abbrev pub AttributeFits : LinkAttribute → Type 0
AttributeFits = tables.FitsAs base attribute_view NotEmptyPorts

-- how many values it is: itself, and the members of its lists at all levels
abbrev pub attribute_count : LinkAttribute → ℕ
attribute_count = tables.count_of base attribute_view NotEmptyPorts

-- a list of attributes
abbrev pub Values : Type 0
Values = List LinkAttribute

-- ** what the header's family decides

-- IFLA_PROTINFO
unfoldable pub proto_info : AddressFamily → Reading base attribute_view NotEmptyPorts kernel.IFLA_PROTINFO
unfolding attribute_view
proto_info Families.Inet6 = shaping base attribute_view NotEmptyPorts kernel.IFLA_PROTINFO
    (by_shape Shapes.Inet6Infos) Attributes.ProtoInfoInet6 (λ a. refl) (λ a good. tt)
proto_info Families.Bridge = shaping base attribute_view NotEmptyPorts kernel.IFLA_PROTINFO
    (by_shape Shapes.BridgeInfos) Attributes.ProtoInfoBridge (λ a. refl) (λ a good. tt)
proto_info _ = keeping base attribute_view NotEmptyPorts kernel.IFLA_PROTINFO Attributes.ProtoInfoUnknown (λ f. refl)

-- IFLA_AF_SPEC
unfoldable pub af_spec : AddressFamily → Reading base attribute_view NotEmptyPorts kernel.IFLA_AF_SPEC
unfolding attribute_view
af_spec Families.Unspec = shaping base attribute_view NotEmptyPorts kernel.IFLA_AF_SPEC
    (by_shape Shapes.Unspecs) Attributes.AfSpecUnspec (λ a. refl) (λ a good. tt)
af_spec Families.Bridge = shaping base attribute_view NotEmptyPorts kernel.IFLA_AF_SPEC
    (by_shape Shapes.Bridges) Attributes.AfSpecBridge (λ a. refl) (λ a good. tt)
af_spec _ = shaping base attribute_view NotEmptyPorts kernel.IFLA_AF_SPEC
    bytes Attributes.AfSpecUnknown (λ a. refl) (λ a good. tt)

-- ** the place

unfoldable pub attribute_entries : AddressFamily → List {1} (Entry base attribute_view NotEmptyPorts)
unfolding attribute_view
attribute_entries family =
    entries_of base attributes NotEmptyPorts attribute_table
    ++ record { number = kernel.IFLA_PROTINFO; size = None; reading = proto_info family; keeps_size = tt }
    ∷ record { number = kernel.IFLA_AF_SPEC; size = None; reading = af_spec family; keeps_size = tt }
    ∷ []

unfoldable pub attribute_place : AddressFamily → Grammar Frame LinkAttribute
attribute_place family = lines base attribute_view NotEmptyPorts (attribute_entries family) (undecoded Attributes.Other)

-- no line reads the frame under the family
abbrev pub IsUnlisted : AddressFamily → Frame → Type 0
IsUnlisted family f = tables.IsForeign base attribute_view NotEmptyPorts (attribute_entries family) f

-- what code does with such frames
abbrev pub attribute_way : AddressFamily → ℕ → ℕ → Way Shape
attribute_way family n size = way_in base attribute_view NotEmptyPorts (attribute_entries family) n size

abbrev pub as_way : Option Shape → Way Shape
as_way None = Kept
as_way (Some s) = tables.Shape s

entries_hold : (family : AddressFamily)
    → T (all_hold base attribute_view NotEmptyPorts growth 0 attribute_small (attribute_entries family))
unfolding attribute_view attribute_entries proto_info af_spec prop_place devlink_port_place dpll_pin_place
    down_reason_place xdp_place link_info_place vf_info_place vf_port_place link_vf_info_place link_vf_port_place
    af_spec_unspec_place af_spec_bridge_place link_proto_info_bridge_place link_proto_info_inet6_place
entries_hold Families.Unspec = tt
entries_hold Families.Inet = tt
entries_hold Families.Bridge = tt
entries_hold Families.Inet6 = tt
entries_hold Families.Mctp = tt
entries_hold (Families.Other n) = tt

pub other_kept : (f : Frame) → attribute_view (Attributes.Other f) ≡ tables.as_it_is f
unfolding attribute_view
other_kept f = refl

pub attribute_lawful : (family : AddressFamily) → LawfulPlace (attribute_place family) attribute_frame AttributeFits
    NotEmptyPorts attribute_count growth 0 attribute_small
unfolding attribute_place
attribute_lawful family = lined_lawful base attribute_view NotEmptyPorts growth 0 attribute_small Attributes.Other
    other_kept (lit≤ tt) (attribute_entries family) (entries_hold family)

-- a value is written with the number that it was read from
pub attribute_number : (family : AddressFamily) (f : Frame) (v : LinkAttribute) → (attribute_place family).means f v
    → number (attribute_frame v) ≡ number f
unfolding attribute_place
attribute_number family f v means =
    (lines_lawful base attribute_view NotEmptyPorts growth 0 attribute_small Attributes.Other other_kept (lit≤ tt)
    (attribute_entries family) (entries_hold family) (number f)).same_number f v refl means

pub attribute_bounded : (family : AddressFamily) (f : Frame) (v : LinkAttribute) → (attribute_place family).means f v
    → length (canon (attribute_frame v)) ≤ growth * (1 + length f.payload / 4)
attribute_bounded family = encoding_bounded (attribute_lawful family)

-- what no line reads is kept
pub foreign_kept : (family : AddressFamily) (f : Frame) (v : LinkAttribute) → IsUnlisted family f
    → (attribute_place family).means f v → attribute_frame v ≡ f
unfolding attribute_place
foreign_kept family f v foreign means = tables.foreign_kept base attribute_view NotEmptyPorts Attributes.Other
    other_kept (attribute_entries family) f v foreign means
