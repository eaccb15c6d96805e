-- Virtual functions and ports as tables (linux/if_link.h).
--
-- A line says three things of an attribute: its number, what its payload is, and the variant that the value becomes.
-- The lines stand in the order in which the variants are declared, and `keeps` is for all frames that no line reads. Of
-- such a table `.grammar` is how frames are read, `.frame` how a value is written, `.Fits` when it can be, `.count` how
-- many values it is, and `.lawful` holds what is proved of them.
use Rattle.std.specs.Prelude.{◌≡◌, ◌≤◌, List, length, refl}
use Rattle.std.proofs.Common.{lit<, lit≤}
use Rattle.nla_wire.specs.Sizes.{most_payload, plain_growth, inner_small}
use Rattle.nla_wire.specs.Frames.{number}
use Rattle.nla_wire.proofs.Lawful.{always}
use Rattle.nla_wire.proofs.Codec.{Codec, Place, u64, sized_record, list_of, some_of, picked_of, as_codec, place_of}
use Rattle.nla_wire.proofs.Variants.{Table, place, no_shapes, line, keeps, ◌&◌}
use Rattle.link_vfrec.specs.Laws.{vf_info_mac_laws, vf_info_broadcast_laws, vf_info_vlan_laws, vf_info_tx_rate_laws}
use Rattle.link_vfrec.specs.Laws.{vf_info_rate_laws, vf_info_spoof_check_laws, vf_info_rss_query_en_laws}
use Rattle.link_vfrec.specs.Laws.{vf_info_trust_laws, vf_info_link_state_laws, vf_info_guid_laws, vf_vlan_info_laws}
use Rattle.link_vf.specs.declared.numbers.TheConstants as kernel
use Rattle.link_vf.specs.declared.stats.VfStats.{VfStats}
use Rattle.link_vf.specs.declared.stats.VfStats.TheVariants as stats
use Rattle.link_vf.specs.contracts.stats.VfStats.{enum as statistics}
use Rattle.link_vf.specs.declared.vf_vlan.VfVlan.{VfVlan}
use Rattle.link_vf.specs.declared.vf_vlan.VfVlan.TheVariants as vlan
use Rattle.link_vf.specs.contracts.vf_vlan.VfVlan.{enum as vlans}
use Rattle.link_vf.specs.declared.vf_info.VfInfo.{VfInfo}
use Rattle.link_vf.specs.declared.vf_info.VfInfo.TheVariants as info
use Rattle.link_vf.specs.contracts.vf_info.VfInfo.{enum as infos}
use Rattle.link_vf.specs.declared.vf_port.VfPort.{VfPort}
use Rattle.link_vf.specs.declared.vf_port.VfPort.TheVariants as port
use Rattle.link_vf.specs.contracts.vf_port.VfPort.{enum as ports}
use Rattle.link_vf.specs.declared.vf_list.LinkVfInfo.{LinkVfInfo}
use Rattle.link_vf.specs.declared.port_list.LinkVfPort.{LinkVfPort}
use Rattle.link_vf.specs.Entries.{IsEntry, is_entry}

-- members of IFLA_VF_STATS
abbrev pub vf_stats_table : Table no_shapes statistics always
vf_stats_table =
    line kernel.IFLA_VF_STATS_RX_PACKETS u64 stats.RxPackets
    & line kernel.IFLA_VF_STATS_TX_PACKETS u64 stats.TxPackets
    & line kernel.IFLA_VF_STATS_RX_BYTES u64 stats.RxBytes
    & line kernel.IFLA_VF_STATS_TX_BYTES u64 stats.TxBytes
    & line kernel.IFLA_VF_STATS_BROADCAST u64 stats.Broadcast
    & line kernel.IFLA_VF_STATS_MULTICAST u64 stats.Multicast
    & line kernel.IFLA_VF_STATS_RX_DROPPED u64 stats.RxDropped
    & line kernel.IFLA_VF_STATS_TX_DROPPED u64 stats.TxDropped
    & keeps stats.Other
    & tt

unfoldable pub vf_stats_place : Place VfStats
vf_stats_place = place no_shapes statistics plain_growth 0 inner_small vf_stats_table stats.Other (λ f. refl) tt tt tt

pub vf_stats_small : (v : VfStats) → length (vf_stats_place.frame v).payload ≤ most_payload → vf_stats_place.Fits v
unfolding vf_stats_place
vf_stats_small = vf_stats_place.when_small tt

-- members of IFLA_VF_VLAN_LIST
abbrev pub vf_vlan_table : Table no_shapes vlans always
vf_vlan_table =
    line kernel.IFLA_VF_VLAN_INFO (sized_record vf_vlan_info_laws (lit≤ tt)) vlan.Info
    & keeps vlan.Other
    & tt

unfoldable pub vf_vlan_place : Place VfVlan
vf_vlan_place = place no_shapes vlans plain_growth 0 inner_small vf_vlan_table vlan.Other (λ f. refl) tt tt tt

-- members of IFLA_VF_INFO
abbrev pub vf_info_table : Table no_shapes infos always
vf_info_table =
    line kernel.IFLA_VF_MAC (sized_record vf_info_mac_laws (lit≤ tt)) info.Mac
    & line kernel.IFLA_VF_VLAN (sized_record vf_info_vlan_laws (lit≤ tt)) info.Vlan
    & line kernel.IFLA_VF_TX_RATE (sized_record vf_info_tx_rate_laws (lit≤ tt)) info.TxRate
    & line kernel.IFLA_VF_SPOOFCHK (sized_record vf_info_spoof_check_laws (lit≤ tt)) info.SpoofCheck
    & line kernel.IFLA_VF_LINK_STATE (sized_record vf_info_link_state_laws (lit≤ tt)) info.LinkState
    & line kernel.IFLA_VF_RATE (sized_record vf_info_rate_laws (lit≤ tt)) info.Rate
    & line kernel.IFLA_VF_RSS_QUERY_EN (sized_record vf_info_rss_query_en_laws (lit≤ tt)) info.RssQueryEn
    & line kernel.IFLA_VF_STATS (list_of vf_stats_place) info.Stats
    & line kernel.IFLA_VF_TRUST (sized_record vf_info_trust_laws (lit≤ tt)) info.Trust
    & line kernel.IFLA_VF_IB_NODE_GUID (sized_record vf_info_guid_laws (lit≤ tt)) info.IbNodeGuid
    & line kernel.IFLA_VF_IB_PORT_GUID (sized_record vf_info_guid_laws (lit≤ tt)) info.IbPortGuid
    & line kernel.IFLA_VF_VLAN_LIST (list_of vf_vlan_place) info.VlanList
    & line kernel.IFLA_VF_BROADCAST (sized_record vf_info_broadcast_laws (lit≤ tt)) info.Broadcast
    & keeps info.Other
    & tt

unfoldable pub vf_info_place : Place VfInfo
unfolding vf_stats_place vf_vlan_place
vf_info_place = place no_shapes infos plain_growth 0 inner_small vf_info_table info.Other (λ f. refl) tt tt tt

-- members of IFLA_VF_PORT and of IFLA_PORT_SELF: none is listed
abbrev pub vf_port_table : Table no_shapes ports always
vf_port_table = keeps port.Other & tt

unfoldable pub vf_port_place : Place VfPort
vf_port_place = place no_shapes ports plain_growth 0 inner_small vf_port_table port.Other (λ f. refl) tt tt tt

pub vf_port_small : (v : VfPort) → length (vf_port_place.frame v).payload ≤ most_payload → vf_port_place.Fits v
unfolding vf_port_place
vf_port_small = vf_port_place.when_small tt

-- ** an entry of IFLA_VFINFO_LIST: what is said of one function. The empty payload is refused

abbrev pub link_vf_info_members : LinkVfInfo → List VfInfo
link_vf_info_members v = v.0

abbrev pub link_vf_info_of : List VfInfo → LinkVfInfo
link_vf_info_of vs = record { 0 = vs }

abbrev pub link_vf_info : Codec LinkVfInfo
link_vf_info = as_codec link_vf_info_of link_vf_info_members (some_of vf_info_place) (λ vs. refl)

unfoldable pub link_vf_info_place : Place LinkVfInfo
unfolding vf_info_place
link_vf_info_place =
    place_of link_vf_info_of link_vf_info_members (some_of vf_info_place) (λ vs. refl) kernel.IFLA_VF_INFO
    (lit< tt) tt tt

pub link_vf_info_ones : (v : LinkVfInfo) → number (link_vf_info_place.frame v) ≡ 1
unfolding link_vf_info_place
link_vf_info_ones v = refl

pub link_vf_info_entries
    : IsEntry link_vf_info_of link_vf_info_members kernel.IFLA_VF_INFO vf_info_place link_vf_info_place
    plain_growth 0
unfolding link_vf_info_place vf_info_place
link_vf_info_entries =
    is_entry link_vf_info_of link_vf_info_members vf_info_place (λ vs. refl) kernel.IFLA_VF_INFO (lit< tt) refl tt tt

-- IFLA_VFINFO_LIST, whose other entries are dropped unread
abbrev pub vf_info_list : Codec (List LinkVfInfo)
vf_info_list = picked_of link_vf_info_place link_vf_info_ones

-- ** an entry of IFLA_VF_PORTS, and the value of IFLA_PORT_SELF: what is said of one port. The empty payload is refused

abbrev pub link_vf_port_members : LinkVfPort → List VfPort
link_vf_port_members v = v.0

abbrev pub link_vf_port_of : List VfPort → LinkVfPort
link_vf_port_of vs = record { 0 = vs }

abbrev pub link_vf_port : Codec LinkVfPort
link_vf_port = as_codec link_vf_port_of link_vf_port_members (some_of vf_port_place) (λ vs. refl)

unfoldable pub link_vf_port_place : Place LinkVfPort
unfolding vf_port_place
link_vf_port_place =
    place_of link_vf_port_of link_vf_port_members (some_of vf_port_place) (λ vs. refl) kernel.IFLA_VF_PORT
    (lit< tt) tt tt

pub link_vf_port_ones : (v : LinkVfPort) → number (link_vf_port_place.frame v) ≡ 1
unfolding link_vf_port_place
link_vf_port_ones v = refl

pub link_vf_port_entries
    : IsEntry link_vf_port_of link_vf_port_members kernel.IFLA_VF_PORT vf_port_place link_vf_port_place
    plain_growth 0
unfolding link_vf_port_place vf_port_place
link_vf_port_entries =
    is_entry link_vf_port_of link_vf_port_members vf_port_place (λ vs. refl) kernel.IFLA_VF_PORT (lit< tt) refl tt tt

-- IFLA_VF_PORTS, whose other entries are dropped unread
abbrev pub vf_port_list : Codec (List LinkVfPort)
vf_port_list = picked_of link_vf_port_place link_vf_port_ones
