-- The tables of link messages by the kernel's numbers (linux/if_link.h, linux/devlink.h, linux/dpll.h,
-- linux/wireless.h, and linux/socket.h for the families). What the field `written` of each table does, `AllFollowRows`
-- says at the end.
use Rattle.std.specs.Prelude.{ℕ, ℤ, ◌+◌, ◌<◌, ◌≤◌, ◌^◌, ◌==◌, not, Bool, true, false, List, [], ◌∷◌, ◌++◌, length, drop}
use Rattle.std.specs.Prelude.{if◌then◌else◌}
use Rattle.std.specs.Int.{Width, w8, w16, w32, w64, to_le_bytes, cast_signed, cast_unsigned}
use Rattle.std.specs.Net.Addr.{ipv6_octets}
use Rattle.std.specs.declared.net.ipv6_addr.Ipv6Addr.{Ipv6Addr}
use Rattle.nla_wire.specs.Fields.{number_at}
use Rattle.nla_wire.specs.Payloads as payload
use Rattle.nla_wire.specs.Payloads.{address_of_octets, exactly, filled, sized}
use Rattle.link_vals.specs.StateTable.{state_of, state_number}
use Rattle.link_vals.specs.LinkModeTable.{link_mode_of, link_mode_number}
use Rattle.link_vals.specs.LinkEventTable.{link_event_of, link_event_number}
use Rattle.link_vals.specs.LinkExtentMaskTable.{ext_list, ext_sum}
use Rattle.link_vals.specs.LinkPhysIdBytes.{phys_id_of, phys_id_bytes}
use Rattle.link_vals.specs.XdpAttachedTable.{xdp_attached_of, xdp_attached_number}
use Rattle.link_vals.specs.MctpPhysBindingTable.{mctp_phys_binding_of, mctp_phys_binding_number}
use Rattle.link_vals.specs.In6AddrGenModeTable.{in6_addr_gen_mode_of, in6_addr_gen_mode_number}
use Rattle.link_vals.specs.Inet6IfaceFlagsTable.{inet6_iface_flags_of, inet6_iface_flags_bits}
use Rattle.link_vals.specs.declared.ext_mask.LinkExtentMask.{LinkExtentMask}
use Rattle.link_vals.specs.declared.phys_id.LinkPhysId.{LinkPhysId}
use Rattle.link_vals.specs.declared.address_family.AddressFamily.{AddressFamily}
use Rattle.link_vals.specs.declared.address_family.AddressFamily.TheVariants as Families
use Rattle.link_recs.specs.StatsFields.{stats_of, stats_bytes}
use Rattle.link_recs.specs.Stats64Fields.{stats64_of, stats64_bytes}
use Rattle.link_recs.specs.MapFields.{map_of, map_bytes}
use Rattle.link_recs.specs.InetDevConfFields.{inet_dev_conf_of, inet_dev_conf_bytes}
use Rattle.link_recs.specs.Inet6DevConfFields.{inet6_dev_conf_of, inet6_dev_conf_bytes}
use Rattle.link_recs.specs.Inet6StatsFields.{inet6_stats_of, inet6_stats_bytes}
use Rattle.link_recs.specs.Icmp6StatsFields.{icmp6_stats_of, icmp6_stats_bytes}
use Rattle.link_recs.specs.Inet6CacheInfoFields.{inet6_cache_info_of, inet6_cache_info_bytes}
use Rattle.link_vfrec.specs.Records.{vf_info_mac_of, vf_info_mac_bytes, vf_info_broadcast_of, vf_info_broadcast_bytes}
use Rattle.link_vfrec.specs.Records.{vf_info_vlan_of, vf_info_vlan_bytes, vf_info_tx_rate_of, vf_info_tx_rate_bytes}
use Rattle.link_vfrec.specs.Records.{vf_info_rate_of, vf_info_rate_bytes, vf_info_spoof_check_of}
use Rattle.link_vfrec.specs.Records.{vf_info_spoof_check_bytes, vf_info_rss_query_en_of, vf_info_rss_query_en_bytes}
use Rattle.link_vfrec.specs.Records.{vf_info_trust_of, vf_info_trust_bytes, vf_info_link_state_of}
use Rattle.link_vfrec.specs.Records.{vf_info_link_state_bytes, vf_info_guid_of, vf_info_guid_bytes, vf_vlan_info_of}
use Rattle.link_vfrec.specs.Records.{vf_vlan_info_bytes}
use Rattle.link_nest.specs.declared.wireless.WirelessEvent.{WirelessEvent}
use Rattle.link_nest.specs.declared.wireless.WirelessEvent.TheVariants as Events
use Rattle.link_nest.specs.declared.prop_list.Prop.{Prop}
use Rattle.link_nest.specs.declared.prop_list.Prop.TheVariants as Props
use Rattle.link_nest.specs.declared.devlink_port.DevlinkPort.{DevlinkPort}
use Rattle.link_nest.specs.declared.devlink_port.DevlinkPort.TheVariants as DevlinkPorts
use Rattle.link_nest.specs.declared.dpll_pin.DpllPin.{DpllPin}
use Rattle.link_nest.specs.declared.dpll_pin.DpllPin.TheVariants as Pins
use Rattle.link_nest.specs.declared.down_reason.LinkProtocolDownReason.{LinkProtocolDownReason}
use Rattle.link_nest.specs.declared.down_reason.LinkProtocolDownReason.TheVariants as Reasons
use Rattle.link_nest.specs.declared.xdp.LinkXdp.{LinkXdp}
use Rattle.link_nest.specs.declared.xdp.LinkXdp.TheVariants as Xdps
use Rattle.link_nest.specs.declared.link_info.LinkInfo.{LinkInfo}
use Rattle.link_nest.specs.declared.link_info.LinkInfo.TheVariants as Infos
use Rattle.link_vf.specs.declared.stats.VfStats.{VfStats}
use Rattle.link_vf.specs.declared.stats.VfStats.TheVariants as VfStatistics
use Rattle.link_vf.specs.declared.vf_vlan.VfVlan.{VfVlan}
use Rattle.link_vf.specs.declared.vf_vlan.VfVlan.TheVariants as VfVlans
use Rattle.link_vf.specs.declared.vf_info.VfInfo.{VfInfo}
use Rattle.link_vf.specs.declared.vf_info.VfInfo.TheVariants as VfInfos
use Rattle.link_vf.specs.declared.vf_port.VfPort.{VfPort}
use Rattle.link_vf.specs.declared.vf_port.VfPort.TheVariants as VfPorts
use Rattle.link_vf.specs.declared.vf_list.LinkVfInfo.{LinkVfInfo}
use Rattle.link_vf.specs.declared.port_list.LinkVfPort.{LinkVfPort}
use Rattle.link_afspec.specs.declared.mctp.AfSpecMctp.{AfSpecMctp}
use Rattle.link_afspec.specs.declared.mctp.AfSpecMctp.TheVariants as Mctps
use Rattle.link_afspec.specs.declared.inet.AfSpecInet.{AfSpecInet}
use Rattle.link_afspec.specs.declared.inet.AfSpecInet.TheVariants as Inets
use Rattle.link_afspec.specs.declared.inet6.AfSpecInet6.{AfSpecInet6}
use Rattle.link_afspec.specs.declared.inet6.AfSpecInet6.TheVariants as Inet6s
use Rattle.link_afspec.specs.declared.unspec.AfSpecUnspec.{AfSpecUnspec}
use Rattle.link_afspec.specs.declared.unspec.AfSpecUnspec.TheVariants as AfSpecs
use Rattle.link_afspec.specs.declared.bridge.AfSpecBridge.{AfSpecBridge}
use Rattle.link_afspec.specs.declared.bridge.AfSpecBridge.TheVariants as Bridges
use Rattle.link_afspec.specs.declared.proto_bridge.LinkProtoInfoBridge.{LinkProtoInfoBridge}
use Rattle.link_afspec.specs.declared.proto_bridge.LinkProtoInfoBridge.TheVariants as BridgeInfos
use Rattle.link_afspec.specs.declared.proto_inet6.LinkProtoInfoInet6.{LinkProtoInfoInet6}
use Rattle.link_afspec.specs.declared.proto_inet6.LinkProtoInfoInet6.TheVariants as Inet6Infos
use Rattle.link_msg.specs.declared.attribute.LinkAttribute.{LinkAttribute}
use Rattle.link_msg.specs.declared.attribute.LinkAttribute.TheVariants as Attributes
use Rattle.link_headline.specs.Rows.{Form, plain, as_form, not_empty, Row, row, nested_row, row_of_size, kept_row}
use Rattle.link_headline.specs.Rows.{Table, list, entries, FollowsRows}
use Rattle.link_headline.specs.Values as written

-- ** payloads that hold no members

-- bytes that are kept as they are
abbrev pub bytes : Form (List ℕ)
bytes = plain payload.bytes (λ p. p)

-- a text, which is written with one NUL whether it had one or not
abbrev pub text : Form (List ℕ)
text = plain payload.text (λ s. s ++ 0 ∷ [])

-- a number of exactly this width, lowest byte first
abbrev pub number : Width → Form ℕ
number w = plain (payload.number_of w) (to_le_bytes w)

abbrev pub u8 : Form ℕ
u8 = number w8

abbrev pub u16 : Form ℕ
u16 = number w16

abbrev pub u32 : Form ℕ
u32 = number w32

abbrev pub u64 : Form ℕ
u64 = number w64

abbrev pub i32 : Form ℤ
i32 = as_form (cast_signed w32) (cast_unsigned w32) u32

-- sixteen octets in order
abbrev pub address : Form Ipv6Addr
address = as_form address_of_octets ipv6_octets (plain (exactly 16) (λ p. p))

-- 0 is false, and all else true, which is written as 1
abbrev pub truth_of : ℕ → Bool
truth_of n = not (n == 0)

abbrev pub truth_number : Bool → ℕ
truth_number true = 1
truth_number false = 0

-- a number of four bytes as the list of its flags. A list fits where its sum has four bytes, as all do that bytes mean
abbrev pub ext_mask : Form (List LinkExtentMask)
ext_mask = record (as_form ext_list ext_sum u32) { Inside = λ flags. ext_sum flags < 2 ^ 32 }

-- the first 32 bytes of the payload, or all if they are fewer. An id fits where it has 32 at most, as all do that bytes
-- mean
abbrev pub phys_id : Form LinkPhysId
phys_id = record (plain (filled phys_id_of) phys_id_bytes) { Inside = λ id. id.len ≤ 32 }

-- an event of the wireless extensions: two bytes of length, two of command, four of padding, and what it says. Of the
-- commands IWEVASSOCREQIE and IWEVASSOCRESPIE only what it says is kept; of others the payload, whole
abbrev pub event_by : ℕ → List ℕ → WirelessEvent
event_by command p =
    if command == 0x8c07 then Events.AssociateRequest (drop 8 p)
    else if command == 0x8c08 then Events.AssociateResponse (drop 8 p)
    else Events.Other p

-- such an event: its length is the true one, and its padding zeros
abbrev pub event_bytes : ℕ → List ℕ → List ℕ
event_bytes command said =
    (to_le_bytes w16 (8 + length said) ++ to_le_bytes w16 command ++ 0 ∷ 0 ∷ 0 ∷ 0 ∷ []) ++ said

abbrev pub event_encoding : WirelessEvent → List ℕ
event_encoding (Events.AssociateRequest said) = event_bytes 0x8c07 said
event_encoding (Events.AssociateResponse said) = event_bytes 0x8c08 said
event_encoding (Events.Other p) = p

abbrev pub event : Form WirelessEvent
event = record (plain (sized 8 (λ p. event_by (number_at w16 p 2) p)) event_encoding) {
  Inside = λ e. length (event_encoding e) ≤ 65531;
}

-- ** IFLA_VFINFO_LIST

-- IFLA_VF_STATS
abbrev pub function_stats : Table VfStats
function_stats = record {
  rows =
      row 0 u64 VfStatistics.RxPackets
      ∷ row 1 u64 VfStatistics.TxPackets
      ∷ row 2 u64 VfStatistics.RxBytes
      ∷ row 3 u64 VfStatistics.TxBytes
      ∷ row 4 u64 VfStatistics.Broadcast
      ∷ row 5 u64 VfStatistics.Multicast
      ∷ row 7 u64 VfStatistics.RxDropped
      ∷ row 8 u64 VfStatistics.TxDropped
      ∷ [];
  other = VfStatistics.Other;
  written = written.function_stats;
}

-- IFLA_VF_VLAN_LIST
abbrev pub function_vlans : Table VfVlan
function_vlans = record {
  rows = row 1 (plain (sized 16 vf_vlan_info_of) vf_vlan_info_bytes) VfVlans.Info ∷ [];
  other = VfVlans.Other;
  written = written.function_vlans;
}

-- IFLA_VF_INFO
abbrev pub functions : Table VfInfo
functions = record {
  rows =
      row 1 (plain (sized 36 vf_info_mac_of) vf_info_mac_bytes) VfInfos.Mac
      ∷ row 2 (plain (sized 12 vf_info_vlan_of) vf_info_vlan_bytes) VfInfos.Vlan
      ∷ row 3 (plain (sized 8 vf_info_tx_rate_of) vf_info_tx_rate_bytes) VfInfos.TxRate
      ∷ row 4 (plain (sized 8 vf_info_spoof_check_of) vf_info_spoof_check_bytes) VfInfos.SpoofCheck
      ∷ row 5 (plain (sized 8 vf_info_link_state_of) vf_info_link_state_bytes) VfInfos.LinkState
      ∷ row 6 (plain (sized 12 vf_info_rate_of) vf_info_rate_bytes) VfInfos.Rate
      ∷ row 7 (plain (sized 8 vf_info_rss_query_en_of) vf_info_rss_query_en_bytes) VfInfos.RssQueryEn
      ∷ row 8 (list function_stats) VfInfos.Stats
      ∷ row 9 (plain (sized 8 vf_info_trust_of) vf_info_trust_bytes) VfInfos.Trust
      ∷ row 10 (plain (sized 16 vf_info_guid_of) vf_info_guid_bytes) VfInfos.IbNodeGuid
      ∷ row 11 (plain (sized 16 vf_info_guid_of) vf_info_guid_bytes) VfInfos.IbPortGuid
      ∷ row 12 (list function_vlans) VfInfos.VlanList
      ∷ row 13 (plain (sized 32 vf_info_broadcast_of) vf_info_broadcast_bytes) VfInfos.Broadcast
      ∷ [];
  other = VfInfos.Other;
  written = written.functions;
}

-- an entry of IFLA_VFINFO_LIST: a record whose one field is the list
abbrev pub function : Form LinkVfInfo
function = as_form (λ members. record { 0 = members }) (λ v. v.0) (not_empty (list functions))

-- ** IFLA_VF_PORTS, IFLA_PORT_SELF

-- IFLA_VF_PORT: without rows, so all members are kept as they are
abbrev pub ports : Table VfPort
ports = record { rows = []; other = VfPorts.Other; written = written.ports }

-- an entry of IFLA_VF_PORTS, and IFLA_PORT_SELF
abbrev pub port : Form LinkVfPort
port = as_form (λ members. record { 0 = members }) (λ v. v.0) (not_empty (list ports))

-- ** IFLA_AF_SPEC

-- AF_INET
abbrev pub inets : Table AfSpecInet
inets = record {
  rows = row 1 (plain (filled inet_dev_conf_of) inet_dev_conf_bytes) Inets.DevConf ∷ [];
  other = Inets.Other;
  written = written.inets;
}

-- AF_INET6
abbrev pub inet6s : Table AfSpecInet6
inet6s = record {
  rows =
      row 1 (as_form inet6_iface_flags_of inet6_iface_flags_bits u32) Inet6s.Flags
      ∷ row 5 (plain (sized 16 inet6_cache_info_of) inet6_cache_info_bytes) Inet6s.CacheInfo
      ∷ row 2 (plain (filled inet6_dev_conf_of) inet6_dev_conf_bytes) Inet6s.DevConf
      ∷ row 3 (plain (filled inet6_stats_of) inet6_stats_bytes) Inet6s.Stats
      ∷ row 6 (plain (filled icmp6_stats_of) icmp6_stats_bytes) Inet6s.Icmp6Stats
      ∷ row 7 address Inet6s.Token
      ∷ row 8 (as_form in6_addr_gen_mode_of in6_addr_gen_mode_number u8) Inet6s.AddrGenMode
      ∷ row 9 u32 Inet6s.RaMtu
      ∷ [];
  other = Inet6s.Other;
  written = written.inet6s;
}

-- AF_MCTP
abbrev pub mctps : Table AfSpecMctp
mctps = record {
  rows =
      row 1 u32 Mctps.Net
      ∷ row 2 (as_form mctp_phys_binding_of mctp_phys_binding_number u8) Mctps.PhysBinding
      ∷ [];
  other = Mctps.Other;
  written = written.mctps;
}

-- AF_UNSPEC: each member's number is that of a family
abbrev pub families : Table AfSpecUnspec
families = record {
  rows =
      row 2 (not_empty (list inets)) AfSpecs.Inet
      ∷ row 10 (not_empty (list inet6s)) AfSpecs.Inet6
      ∷ row 45 (not_empty (list mctps)) AfSpecs.Mctp
      ∷ [];
  other = AfSpecs.Other;
  written = written.families;
}

-- AF_BRIDGE: all members are kept as they are
abbrev pub bridges : Table AfSpecBridge
bridges = record { rows = []; other = Bridges.Other; written = written.bridges }

-- ** IFLA_PROTINFO

-- AF_BRIDGE
abbrev pub bridge_infos : Table LinkProtoInfoBridge
bridge_infos = record { rows = []; other = BridgeInfos.Other; written = written.bridge_infos }

-- AF_INET6
abbrev pub inet6_infos : Table LinkProtoInfoInet6
inet6_infos = record { rows = []; other = Inet6Infos.Other; written = written.inet6_infos }

-- ** other lists

-- IFLA_PROP_LIST
abbrev pub props : Table Prop
props = record { rows = row 53 text Props.AltIfName ∷ []; other = Props.Other; written = written.props }

-- IFLA_DEVLINK_PORT
abbrev pub devlink_ports : Table DevlinkPort
devlink_ports = record {
  rows =
      row 1 text DevlinkPorts.BusName
      ∷ row 2 text DevlinkPorts.DevName
      ∷ row 3 u32 DevlinkPorts.PortIndex
      ∷ [];
  other = DevlinkPorts.Other;
  written = written.devlink_ports;
}

-- IFLA_DPLL_PIN
abbrev pub dpll_pins : Table DpllPin
dpll_pins = record { rows = row 1 u32 Pins.PinId ∷ []; other = Pins.Other; written = written.dpll_pins }

-- IFLA_PROTO_DOWN_REASON
abbrev pub reasons : Table LinkProtocolDownReason
reasons = record {
  rows =
      row 1 u32 Reasons.Mask
      ∷ row 2 u32 Reasons.Value
      ∷ [];
  other = Reasons.Other;
  written = written.reasons;
}

-- IFLA_XDP
abbrev pub xdps : Table LinkXdp
xdps = record {
  rows =
      row 1 i32 Xdps.Fd
      ∷ row 2 (as_form xdp_attached_of xdp_attached_number u8) Xdps.Attached
      ∷ row 3 u32 Xdps.Flags
      ∷ row 4 u32 Xdps.ProgId
      ∷ row 5 u32 Xdps.DrvProgId
      ∷ row 6 u32 Xdps.SkbProgId
      ∷ row 7 u32 Xdps.HwProgId
      ∷ row 8 u32 Xdps.ExpectedFd
      ∷ [];
  other = Xdps.Other;
  written = written.xdps;
}

-- IFLA_LINKINFO
abbrev pub infos : Table LinkInfo
infos = record { rows = row 1 text Infos.Kind ∷ []; other = Infos.Other; written = written.infos }

-- ** the outermost list

-- the rows that stand under each family. Which attribute a variant is, src/attribute.rt of link_msg says
abbrev pub rows : List {1} (Row LinkAttribute)
rows =
    row 1 bytes Attributes.Address
    ∷ row 2 bytes Attributes.Broadcast
    ∷ row 3 text Attributes.IfName
    ∷ row 4 u32 Attributes.Mtu
    ∷ row 5 u32 Attributes.Link
    ∷ row 6 text Attributes.Qdisc
    ∷ row 7 (plain (filled stats_of) stats_bytes) Attributes.Stats
    ∷ row 10 u32 Attributes.Controller
    ∷ row 11 event Attributes.Wireless
    ∷ row 13 u32 Attributes.TxQueueLen
    ∷ row 14 (plain (sized 32 map_of) map_bytes) Attributes.Map
    ∷ row 16 (as_form state_of state_number u8) Attributes.OperState
    ∷ row 17 (as_form link_mode_of link_mode_number u8) Attributes.Mode
    ∷ row 18 (not_empty (list infos)) Attributes.LinkInfo
    ∷ row 19 u32 Attributes.NetNsPid
    ∷ row 20 text Attributes.IfAlias
    ∷ row 21 u32 Attributes.NumVf
    ∷ row 22 (entries function) Attributes.VfInfoList
    ∷ row 23 (plain (filled stats64_of) stats64_bytes) Attributes.Stats64
    ∷ row 24 (not_empty (entries port)) Attributes.VfPorts
    ∷ row 25 port Attributes.PortSelf
    ∷ row 27 u32 Attributes.Group
    ∷ row 28 i32 Attributes.NetNsFd
    ∷ row 29 ext_mask Attributes.ExtMask
    ∷ row 30 u32 Attributes.Promiscuity
    ∷ row 31 u32 Attributes.NumTxQueues
    ∷ row 32 u32 Attributes.NumRxQueues
    ∷ row 33 u8 Attributes.Carrier
    ∷ row 34 phys_id Attributes.PhysPortId
    ∷ row 35 u32 Attributes.CarrierChanges
    ∷ row 36 phys_id Attributes.PhysSwitchId
    ∷ row 37 i32 Attributes.LinkNetNsId
    ∷ row 38 text Attributes.PhysPortName
    ∷ row 39 u8 Attributes.ProtoDown
    ∷ row 40 u32 Attributes.GsoMaxSegs
    ∷ row 41 u32 Attributes.GsoMaxSize
    ∷ row 43 (not_empty (list xdps)) Attributes.Xdp
    ∷ row 44 (as_form link_event_of link_event_number u32) Attributes.Event
    ∷ row 45 i32 Attributes.NewNetnsId
    ∷ row 46 i32 Attributes.IfNetnsId
    ∷ row 47 u32 Attributes.CarrierUpCount
    ∷ row 48 u32 Attributes.CarrierDownCount
    ∷ row 49 i32 Attributes.NewIfIndex
    ∷ row 50 u32 Attributes.MinMtu
    ∷ row 51 u32 Attributes.MaxMtu
    ∷ nested_row 52 (list props) Attributes.PropList
    ∷ row 54 bytes Attributes.PermAddress
    ∷ row 55 (list reasons) Attributes.ProtoDownReason
    ∷ row 56 text Attributes.ParentDevName
    ∷ row 57 text Attributes.ParentDevBusName
    ∷ row 58 u32 Attributes.GroMaxSize
    ∷ row 59 u32 Attributes.TsoMaxSize
    ∷ row 60 u32 Attributes.TsoMaxSegs
    ∷ row 61 u32 Attributes.AllMulticast
    ∷ nested_row 62 (list devlink_ports) Attributes.DevlinkPort
    ∷ row 63 u32 Attributes.GsoIpv4MaxSize
    ∷ row 64 u32 Attributes.GroIpv4MaxSize
    ∷ nested_row 65 (list dpll_pins) Attributes.DpllPin
    ∷ row 67 (as_form truth_of truth_number u8) Attributes.NetnsImmutable
    ∷ row_of_size 2 68 u16 Attributes.Headroom
    ∷ row_of_size 2 69 u16 Attributes.Tailroom
    ∷ []

-- IFLA_PROTINFO by the header's family: a list, or a frame that is kept with its flags
abbrev pub proto_info : AddressFamily → Row LinkAttribute
proto_info Families.Inet6 = nested_row 12 (not_empty (list inet6_infos)) Attributes.ProtoInfoInet6
proto_info Families.Bridge = nested_row 12 (not_empty (list bridge_infos)) Attributes.ProtoInfoBridge
proto_info _ = kept_row 12 Attributes.ProtoInfoUnknown

-- IFLA_AF_SPEC by the header's family: a list, or a payload that is kept, without the flags of the frame
abbrev pub af_spec : AddressFamily → Row LinkAttribute
af_spec Families.Unspec = row 26 (list families) Attributes.AfSpecUnspec
af_spec Families.Bridge = row 26 (not_empty (list bridges)) Attributes.AfSpecBridge
af_spec _ = row 26 bytes Attributes.AfSpecUnknown

-- the attributes of a message whose header has this family
abbrev pub attributes : AddressFamily → Table LinkAttribute
attributes family = record {
  rows = rows ++ proto_info family ∷ af_spec family ∷ [];
  other = Attributes.Other;
  written = written.attributes;
}

-- ** how values are written

-- the values of each table are written as its rows say
pub record AllFollowRows : Type 0 where
  pub attributes : (family : AddressFamily) → FollowsRows (attributes family)
  pub functions : FollowsRows functions
  pub function_stats : FollowsRows function_stats
  pub function_vlans : FollowsRows function_vlans
  pub ports : FollowsRows ports
  pub families : FollowsRows families
  pub inets : FollowsRows inets
  pub inet6s : FollowsRows inet6s
  pub mctps : FollowsRows mctps
  pub bridges : FollowsRows bridges
  pub bridge_infos : FollowsRows bridge_infos
  pub inet6_infos : FollowsRows inet6_infos
  pub props : FollowsRows props
  pub devlink_ports : FollowsRows devlink_ports
  pub dpll_pins : FollowsRows dpll_pins
  pub reasons : FollowsRows reasons
  pub xdps : FollowsRows xdps
  pub infos : FollowsRows infos
