-- The places of settings by family as tables (linux/if_link.h, and linux/socket.h for the families).
--
-- A line says three things of an attribute: its number, what its payload is, and the variant that the value becomes.
-- The lines stand in the order in which the variants are declared, and `keeps` is for all frames that no line reads. Of
-- such a table `.grammar` is how frames are read, `.frame` how a value is written, `.Fits` when it can be, `.count` how
-- many values it is, and `.lawful` holds what is proved of them.
use Rattle.std.specs.Prelude.{◌≤◌, true, length, refl}
use Rattle.std.proofs.Common.{lit≤}
use Rattle.std.specs.Int.{w8, w32}
use Rattle.nla_wire.specs.Sizes.{most_payload, plain_growth, growth, slack, inner_small}
use Rattle.nla_wire.proofs.Lawful.{always}
use Rattle.nla_wire.proofs.Codec.{Codec, Place, kind_of, u32, enum, address, sized_record, filled_record, some_of}
use Rattle.nla_wire.proofs.Variants.{Table, place, no_shapes, line, emits, keeps, ◌&◌}
use Rattle.link_vals.specs.MctpPhysBindingTable.{mctp_phys_binding_of, mctp_phys_binding_number}
use Rattle.link_vals.specs.In6AddrGenModeTable.{in6_addr_gen_mode_of, in6_addr_gen_mode_number}
use Rattle.link_vals.specs.Inet6IfaceFlagsTable.{inet6_iface_flags_of, inet6_iface_flags_bits}
use Rattle.link_vals.proofs.Numbers.{mctp_phys_binding_again, in6_addr_gen_mode_again}
use Rattle.link_vals.specs.declared.mctp_phys_binding.MctpPhysBinding.{MctpPhysBinding}
use Rattle.link_vals.specs.declared.addr_gen_mode.In6AddrGenMode.{In6AddrGenMode}
use Rattle.link_vals.specs.declared.inet6_iface_flags.Inet6IfaceFlags.{Inet6IfaceFlags}
use Rattle.link_recs.specs.declared.inet.InetDevConf.{InetDevConf}
use Rattle.link_recs.specs.InetDevConfFields.{inet_dev_conf_laws}
use Rattle.link_recs.specs.declared.inet6_devconf.Inet6DevConf.{Inet6DevConf}
use Rattle.link_recs.specs.Inet6DevConfFields.{inet6_dev_conf_laws}
use Rattle.link_recs.specs.declared.inet6_stats.Inet6Stats.{Inet6Stats}
use Rattle.link_recs.specs.Inet6StatsFields.{inet6_stats_laws}
use Rattle.link_recs.specs.declared.inet6_icmp.Icmp6Stats.{Icmp6Stats}
use Rattle.link_recs.specs.Icmp6StatsFields.{icmp6_stats_laws}
use Rattle.link_recs.specs.declared.inet6_cache.Inet6CacheInfo.{Inet6CacheInfo}
use Rattle.link_recs.specs.Inet6CacheInfoFields.{inet6_cache_info_laws}
use Rattle.link_afspec.specs.Requests.{request_encoding}
use Rattle.link_afspec.specs.declared.numbers.TheConstants as kernel
use Rattle.link_afspec.specs.declared.mctp.AfSpecMctp.{AfSpecMctp}
use Rattle.link_afspec.specs.declared.mctp.AfSpecMctp.TheVariants as mctp
use Rattle.link_afspec.specs.contracts.mctp.AfSpecMctp.{enum as mctps}
use Rattle.link_afspec.specs.declared.inet.AfSpecInet.{AfSpecInet}
use Rattle.link_afspec.specs.declared.inet.AfSpecInet.TheVariants as inet
use Rattle.link_afspec.specs.contracts.inet.AfSpecInet.{enum as inets}
use Rattle.link_afspec.specs.declared.inet6.AfSpecInet6.{AfSpecInet6}
use Rattle.link_afspec.specs.declared.inet6.AfSpecInet6.TheVariants as inet6
use Rattle.link_afspec.specs.contracts.inet6.AfSpecInet6.{enum as inet6s}
use Rattle.link_afspec.specs.declared.unspec.AfSpecUnspec.{AfSpecUnspec}
use Rattle.link_afspec.specs.declared.unspec.AfSpecUnspec.TheVariants as unspec
use Rattle.link_afspec.specs.contracts.unspec.AfSpecUnspec.{enum as unspecs}
use Rattle.link_afspec.specs.declared.bridge.AfSpecBridge.{AfSpecBridge}
use Rattle.link_afspec.specs.declared.bridge.AfSpecBridge.TheVariants as bridge
use Rattle.link_afspec.specs.contracts.bridge.AfSpecBridge.{enum as bridges}
use Rattle.link_afspec.specs.declared.proto_bridge.LinkProtoInfoBridge.{LinkProtoInfoBridge}
use Rattle.link_afspec.specs.declared.proto_bridge.LinkProtoInfoBridge.TheVariants as proto_bridge
use Rattle.link_afspec.specs.contracts.proto_bridge.LinkProtoInfoBridge.{enum as proto_bridges}
use Rattle.link_afspec.specs.declared.proto_inet6.LinkProtoInfoInet6.{LinkProtoInfoInet6}
use Rattle.link_afspec.specs.declared.proto_inet6.LinkProtoInfoInet6.TheVariants as proto_inet6
use Rattle.link_afspec.specs.contracts.proto_inet6.LinkProtoInfoInet6.{enum as proto_inet6s}

-- ** members of AF_MCTP

-- a physical binding, one byte
abbrev pub phys_binding : Codec MctpPhysBinding
phys_binding = enum w8 mctp_phys_binding_of mctp_phys_binding_number mctp_phys_binding_again

abbrev pub af_spec_mctp_table : Table no_shapes mctps always
af_spec_mctp_table =
    line kernel.IFLA_MCTP_NET u32 mctp.Net
    & line kernel.IFLA_MCTP_PHYS_BINDING phys_binding mctp.PhysBinding
    & keeps mctp.Other
    & tt

unfoldable pub af_spec_mctp_place : Place AfSpecMctp
af_spec_mctp_place = place no_shapes mctps plain_growth 0 inner_small af_spec_mctp_table mctp.Other (λ f. refl) tt tt tt

pub af_spec_mctp_small : (v : AfSpecMctp) → length (af_spec_mctp_place.frame v).payload ≤ most_payload
    → af_spec_mctp_place.Fits v
unfolding af_spec_mctp_place
af_spec_mctp_small = af_spec_mctp_place.when_small tt

-- ** members of AF_INET: no bytes mean a request

-- all settings of IPv4, filled up with zeros where the payload is short
abbrev pub inet_dev_conf : Codec InetDevConf
inet_dev_conf = filled_record inet_dev_conf_laws.laws (lit≤ tt)

abbrev pub af_spec_inet_table : Table no_shapes inets always
af_spec_inet_table =
    line kernel.IFLA_INET_CONF inet_dev_conf inet.DevConf
    & emits (kind_of true kernel.IFLA_INET_CONF) request_encoding inet.DevConfRequest
    & keeps inet.Other
    & tt

unfoldable pub af_spec_inet_place : Place AfSpecInet
af_spec_inet_place = place no_shapes inets growth 0 inner_small af_spec_inet_table inet.Other (λ f. refl) tt tt tt

-- ** members of AF_INET6

-- flags, four bytes
abbrev pub iface_flags : Codec Inet6IfaceFlags
iface_flags = enum w32 inet6_iface_flags_of inet6_iface_flags_bits (λ bits. refl)

-- times of the neighbour cache, refused where the payload is short
abbrev pub inet6_cache_info : Codec Inet6CacheInfo
inet6_cache_info = sized_record inet6_cache_info_laws.laws (lit≤ tt)

-- settings and statistics, filled up with zeros where the payload is short
abbrev pub inet6_dev_conf : Codec Inet6DevConf
inet6_dev_conf = filled_record inet6_dev_conf_laws.laws (lit≤ tt)

abbrev pub inet6_stats : Codec Inet6Stats
inet6_stats = filled_record inet6_stats_laws.laws (lit≤ tt)

abbrev pub icmp6_stats : Codec Icmp6Stats
icmp6_stats = filled_record icmp6_stats_laws.laws (lit≤ tt)

-- how addresses are made, one byte
abbrev pub addr_gen_mode : Codec In6AddrGenMode
addr_gen_mode = enum w8 in6_addr_gen_mode_of in6_addr_gen_mode_number in6_addr_gen_mode_again

abbrev pub af_spec_inet6_table : Table no_shapes inet6s always
af_spec_inet6_table =
    line kernel.IFLA_INET6_FLAGS iface_flags inet6.Flags
    & line kernel.IFLA_INET6_CACHEINFO inet6_cache_info inet6.CacheInfo
    & line kernel.IFLA_INET6_CONF inet6_dev_conf inet6.DevConf
    & line kernel.IFLA_INET6_STATS inet6_stats inet6.Stats
    & line kernel.IFLA_INET6_ICMP6STATS icmp6_stats inet6.Icmp6Stats
    & line kernel.IFLA_INET6_TOKEN address inet6.Token
    & line kernel.IFLA_INET6_ADDR_GEN_MODE addr_gen_mode inet6.AddrGenMode
    & line kernel.IFLA_INET6_RA_MTU u32 inet6.RaMtu
    & keeps inet6.Other
    & tt

unfoldable pub af_spec_inet6_place : Place AfSpecInet6
af_spec_inet6_place = place no_shapes inet6s growth 0 inner_small af_spec_inet6_table inet6.Other (λ f. refl) tt tt tt

-- ** members of IFLA_AF_SPEC of the family AF_UNSPEC

abbrev pub af_spec_unspec_table : Table no_shapes unspecs always
af_spec_unspec_table =
    line kernel.AF_INET (some_of af_spec_inet_place) unspec.Inet
    & line kernel.AF_INET6 (some_of af_spec_inet6_place) unspec.Inet6
    & line kernel.AF_MCTP (some_of af_spec_mctp_place) unspec.Mctp
    & keeps unspec.Other
    & tt

unfoldable pub af_spec_unspec_place : Place AfSpecUnspec
unfolding af_spec_inet_place af_spec_inet6_place af_spec_mctp_place
af_spec_unspec_place =
    place no_shapes unspecs growth slack inner_small af_spec_unspec_table unspec.Other (λ f. refl) tt tt tt

-- ** members of IFLA_AF_SPEC of the family AF_BRIDGE, and of IFLA_PROTINFO: no number is listed

abbrev pub af_spec_bridge_table : Table no_shapes bridges always
af_spec_bridge_table = keeps bridge.Other & tt

unfoldable pub af_spec_bridge_place : Place AfSpecBridge
af_spec_bridge_place =
    place no_shapes bridges plain_growth 0 inner_small af_spec_bridge_table bridge.Other (λ f. refl) tt tt tt

pub af_spec_bridge_small : (v : AfSpecBridge) → length (af_spec_bridge_place.frame v).payload ≤ most_payload
    → af_spec_bridge_place.Fits v
unfolding af_spec_bridge_place
af_spec_bridge_small = af_spec_bridge_place.when_small tt

abbrev pub link_proto_info_bridge_table : Table no_shapes proto_bridges always
link_proto_info_bridge_table = keeps proto_bridge.Other & tt

unfoldable pub link_proto_info_bridge_place : Place LinkProtoInfoBridge
link_proto_info_bridge_place = place no_shapes proto_bridges plain_growth 0 inner_small link_proto_info_bridge_table
    proto_bridge.Other (λ f. refl) tt tt tt

pub link_proto_info_bridge_small : (v : LinkProtoInfoBridge)
    → length (link_proto_info_bridge_place.frame v).payload ≤ most_payload → link_proto_info_bridge_place.Fits v
unfolding link_proto_info_bridge_place
link_proto_info_bridge_small = link_proto_info_bridge_place.when_small tt

abbrev pub link_proto_info_inet6_table : Table no_shapes proto_inet6s always
link_proto_info_inet6_table = keeps proto_inet6.Other & tt

unfoldable pub link_proto_info_inet6_place : Place LinkProtoInfoInet6
link_proto_info_inet6_place = place no_shapes proto_inet6s plain_growth 0 inner_small link_proto_info_inet6_table
    proto_inet6.Other (λ f. refl) tt tt tt

pub link_proto_info_inet6_small : (v : LinkProtoInfoInet6)
    → length (link_proto_info_inet6_place.frame v).payload ≤ most_payload → link_proto_info_inet6_place.Fits v
unfolding link_proto_info_inet6_place
link_proto_info_inet6_small = link_proto_info_inet6_place.when_small tt
