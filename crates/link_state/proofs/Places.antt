-- The places whose members are filled: each row of the table closes.
use Rattle.std.proofs.Common.{ℕ, ◌<◌, refl, lit≤}
use Rattle.std.specs.Int.{w32, w64}
use Rattle.nla_wire.specs.Canon.{canons}
use Rattle.nla_wire.specs.Records.{WritesFilled}
use Rattle.nla_wire.proofs.Lawful.{always}
use Rattle.nla_wire.proofs.Again.{writes_again_4, writes_again_8}
use Rattle.nla_wire.proofs.Codec.{Place, u32, u64, sized_record, list_of, some_of}
use Rattle.nla_wire.proofs.Variants.{no_shapes, view_of, entries_of}
use Rattle.link_vals.specs.LinkEventTable.{link_event_of, link_event_number}
use Rattle.link_vals.proofs.Numbers.{link_event_again}
use Rattle.link_vals.specs.declared.address_family.AddressFamily.{AddressFamily}
use Rattle.link_vals.specs.declared.address_family.AddressFamily.TheVariants as family
use Rattle.link_recs.specs.StatsFields.{stats_size, stats_of, stats_bytes, stats_laws}
use Rattle.link_recs.specs.Stats64Fields.{stats64_size, stats64_of, stats64_bytes, stats64_laws}
use Rattle.link_recs.specs.Inet6StatsFields.{inet6_stats_size, inet6_stats_of, inet6_stats_bytes, inet6_stats_laws}
use Rattle.link_recs.specs.Icmp6StatsFields.{icmp6_stats_size, icmp6_stats_of, icmp6_stats_bytes, icmp6_stats_laws}
use Rattle.link_recs.specs.Inet6CacheInfoFields.{inet6_cache_info_size, inet6_cache_info_of, inet6_cache_info_bytes}
use Rattle.link_recs.specs.Inet6CacheInfoFields.{inet6_cache_info_laws}
use Rattle.link_vfrec.specs.Records.{vf_info_broadcast_size, vf_info_broadcast_of, vf_info_broadcast_bytes}
use Rattle.link_vfrec.specs.Laws.{vf_info_broadcast_laws}
use Rattle.link_vf.specs.Tables.{vf_stats_place, vf_stats_table, vf_info_place, vf_info_table, link_vf_info_place}
use Rattle.link_vf.specs.Tables.{link_vf_info_ones, link_vf_info_of, link_vf_info_members}
use Rattle.link_vf.specs.declared.numbers.TheConstants.{IFLA_VF_INFO}
use Rattle.link_vf.specs.declared.stats.VfStats.TheVariants as vf_stats
use Rattle.link_vf.specs.contracts.stats.VfStats.{enum as vf_statistics}
use Rattle.link_vf.specs.declared.vf_info.VfInfo.TheVariants as vf_info
use Rattle.link_vf.specs.contracts.vf_info.VfInfo.{enum as vf_infos}
use Rattle.link_nest.specs.Tables.{link_info_place, link_info_table}
use Rattle.link_nest.specs.declared.link_info.LinkInfo.TheVariants as info
use Rattle.link_nest.specs.contracts.link_info.LinkInfo.{enum as infos}
use Rattle.link_afspec.specs.Tables.{af_spec_inet6_place, af_spec_inet6_table, inet6_stats, icmp6_stats}
use Rattle.link_afspec.specs.Tables.{inet6_cache_info}
use Rattle.link_afspec.specs.Tables.{af_spec_unspec_place, af_spec_unspec_table}
use Rattle.link_afspec.specs.Tables.{link_proto_info_inet6_place, link_proto_info_inet6_table}
use Rattle.link_afspec.specs.Tables.{link_proto_info_bridge_place, link_proto_info_bridge_table}
use Rattle.link_afspec.specs.declared.inet6.AfSpecInet6.TheVariants as inet6
use Rattle.link_afspec.specs.contracts.inet6.AfSpecInet6.{enum as inet6s}
use Rattle.link_afspec.specs.declared.unspec.AfSpecUnspec.TheVariants as unspec
use Rattle.link_afspec.specs.contracts.unspec.AfSpecUnspec.{enum as unspecs}
use Rattle.link_afspec.specs.declared.proto_inet6.LinkProtoInfoInet6.TheVariants as proto_inet6
use Rattle.link_afspec.specs.contracts.proto_inet6.LinkProtoInfoInet6.{enum as proto_inet6s}
use Rattle.link_afspec.specs.declared.proto_bridge.LinkProtoInfoBridge.TheVariants as proto_bridge
use Rattle.link_afspec.specs.contracts.proto_bridge.LinkProtoInfoBridge.{enum as proto_bridges}
use Rattle.link_msg.specs.Tables.{base, attribute_place, attribute_entries, attribute_view, attribute_frame}
use Rattle.link_msg.specs.Tables.{AttributeFits, NotEmptyPorts, stats, stats64, functions, link_event, af_spec}
use Rattle.link_msg.specs.Tables.{proto_info, unspecs as unspecs_codec, inet6_infos, bridge_infos}
use Rattle.link_msg.specs.declared.attribute.LinkAttribute.TheVariants as attribute
use Rattle.link_state.specs.Table.{rows, proto_info_action, af_spec_action, data_action, slave_data_action}
use Rattle.link_state.specs.Cleared.{info_level}
use Rattle.link_state.specs.declared.kind.Kind.{Kind}
use Rattle.link_state.specs.declared.level.Level.{Level}
use Rattle.link_state.specs.declared.level.Level.TheVariants.{Message, Families, Inet6, Functions, Function}
use Rattle.link_state.specs.declared.level.Level.TheVariants.{FunctionStats, Info, BridgePort}
use Rattle.link_state.specs.Table.{Action}
use Rattle.link_state.specs.Table.Action.{Keep, Clear, ClearPart, Enter, EnterInfo}
use Rattle.link_state.proofs.Closing.{Closes, ClosesAt, by_rows, keep_closes, ◌&◌}
use Rattle.link_state.proofs.Payloads.{ClosesPayload, line_closes, kept_closes, place_of_closes, number_closes}
use Rattle.link_state.proofs.Payloads.{enum_closes, filled_closes, sized_closes, clear_leaves, part_leaves}
use Rattle.link_state.proofs.Payloads.{list_of_closes, some_of_closes, picked_of_closes}

-- the members of a place become members of it
abbrev ClosesIn : {V : Type 0} → Place V → ℕ → Level → Type 0
ClosesIn p by level = Closes p.grammar p.frame p.Fits always by level

-- ** settings of IPv6

pub inet6_closes : (by : ℕ) → by < 256 → ClosesIn af_spec_inet6_place by Inet6
unfolding af_spec_inet6_place
inet6_closes by small =
    let view = view_of no_shapes inet6s always af_spec_inet6_table in
    let es = entries_of no_shapes inet6s always af_spec_inet6_table in
    by_rows af_spec_inet6_place.grammar af_spec_inet6_place.frame af_spec_inet6_place.Fits always by (rows Inet6) (
    line_closes no_shapes view always es inet6.Other by 3 3 Clear inet6_stats inet6.Stats (λ size. refl) (λ a. refl)
    (λ a good. tt) (λ a good. tt) refl
    (filled_closes by inet6_stats_size inet6_stats_of inet6_stats_bytes inet6_stats_laws.plain inet6_stats_laws.size_is
    Clear (clear_leaves by small))
    & line_closes no_shapes view always es inet6.Other by 5 5 (ClearPart 4 12) inet6_cache_info inet6.CacheInfo
    (λ size. refl) (λ a. refl) (λ a good. tt) (λ a good. tt) refl
    (sized_closes by inet6_cache_info_size inet6_cache_info_of inet6_cache_info_bytes inet6_cache_info_laws.plain
    inet6_cache_info_laws.laws.sized (ClearPart 4 12) (part_leaves by small 4 12))
    & line_closes no_shapes view always es inet6.Other by 6 6 Clear icmp6_stats inet6.Icmp6Stats (λ size. refl)
    (λ a. refl) (λ a good. tt) (λ a good. tt) refl
    (filled_closes by icmp6_stats_size icmp6_stats_of icmp6_stats_bytes icmp6_stats_laws.plain icmp6_stats_laws.size_is
    Clear (clear_leaves by small))
    & tt
    )

pub families_close : (by : ℕ) → by < 256 → ClosesIn af_spec_unspec_place by Families
unfolding af_spec_unspec_place
families_close by small =
    let view = view_of no_shapes unspecs always af_spec_unspec_table in
    let es = entries_of no_shapes unspecs always af_spec_unspec_table in
    by_rows af_spec_unspec_place.grammar af_spec_unspec_place.frame af_spec_unspec_place.Fits always by
    (rows Families) (
    line_closes no_shapes view always es unspec.Other by 10 10 (Enter Inet6) (some_of af_spec_inet6_place) unspec.Inet6
    (λ size. refl) (λ a. refl) (λ a good. tt) (λ a good. tt) refl
    (some_of_closes af_spec_inet6_place by Inet6 (inet6_closes by small))
    & tt
    )

-- ** what is kept undecoded: its numbers may be filled in any way

pub info_closes : (by : ℕ) (kind slave_kind : Kind) → ClosesIn link_info_place by (Info kind slave_kind)
unfolding link_info_place
info_closes by kind slave_kind =
    let view = view_of no_shapes infos always link_info_table in
    let es = entries_of no_shapes infos always link_info_table in
    by_rows link_info_place.grammar link_info_place.frame link_info_place.Fits always by (rows (Info kind slave_kind)) (
    kept_closes no_shapes view always es info.Other by 2 (data_action kind) (λ size. refl) (λ f. refl) (λ f. tt)
    & kept_closes no_shapes view always es info.Other by 3 Clear (λ size. refl) (λ f. refl) (λ f. tt)
    & kept_closes no_shapes view always es info.Other by 5 (slave_data_action slave_kind) (λ size. refl) (λ f. refl)
    (λ f. tt)
    & tt
    )

-- by the kinds that are named
by_kind : (by : ℕ) → ClosesPayload (some_of link_info_place).grammar (some_of link_info_place).encoding
    (some_of link_info_place).Inside always by EnterInfo
by_kind by vs own =
    some_of_closes link_info_place by (info_level (canons link_info_place.frame vs)) (info_closes by _ _) vs own

proto_inet6_closes : (by : ℕ) → by < 256 → ClosesIn link_proto_info_inet6_place by Inet6
unfolding link_proto_info_inet6_place
proto_inet6_closes by small =
    let view = view_of no_shapes proto_inet6s always link_proto_info_inet6_table in
    let es = entries_of no_shapes proto_inet6s always link_proto_info_inet6_table in
    let at = λ (n : ℕ) (action : Action).
    kept_closes no_shapes view always es proto_inet6.Other by n action (λ size. refl) (λ f. refl) (λ f. tt) in
    by_rows link_proto_info_inet6_place.grammar link_proto_info_inet6_place.frame link_proto_info_inet6_place.Fits
    always by (rows Inet6) (at 3 Clear & at 5 (ClearPart 4 12) & at 6 Clear & tt)

proto_bridge_closes : (by : ℕ) → by < 256 → ClosesIn link_proto_info_bridge_place by BridgePort
unfolding link_proto_info_bridge_place
proto_bridge_closes by small =
    let view = view_of no_shapes proto_bridges always link_proto_info_bridge_table in
    let es = entries_of no_shapes proto_bridges always link_proto_info_bridge_table in
    let at = λ (n : ℕ).
    kept_closes no_shapes view always es proto_bridge.Other by n Clear (λ size. refl) (λ f. refl) (λ f. tt) in
    by_rows link_proto_info_bridge_place.grammar link_proto_info_bridge_place.frame link_proto_info_bridge_place.Fits
    always by (rows BridgePort) (at 19 & at 20 & at 21 & at 22 & at 23 & at 38 & at 41 & tt)

-- ** virtual functions

function_stats_close : (by : ℕ) → by < 256 → ClosesIn vf_stats_place by FunctionStats
unfolding vf_stats_place
function_stats_close by small =
    let view = view_of no_shapes vf_statistics always vf_stats_table in
    let es = entries_of no_shapes vf_statistics always vf_stats_table in
    let number = number_closes by small w64 writes_again_8 in
    by_rows vf_stats_place.grammar vf_stats_place.frame vf_stats_place.Fits always by (rows FunctionStats) (
    line_closes no_shapes view always es vf_stats.Other by 0 0 Clear u64 vf_stats.RxPackets (λ size. refl) (λ a. refl)
    (λ a good. tt) (λ a good. tt) refl number
    & line_closes no_shapes view always es vf_stats.Other by 1 1 Clear u64 vf_stats.TxPackets (λ size. refl) (λ a. refl)
    (λ a good. tt) (λ a good. tt) refl number
    & line_closes no_shapes view always es vf_stats.Other by 2 2 Clear u64 vf_stats.RxBytes (λ size. refl) (λ a. refl)
    (λ a good. tt) (λ a good. tt) refl number
    & line_closes no_shapes view always es vf_stats.Other by 3 3 Clear u64 vf_stats.TxBytes (λ size. refl) (λ a. refl)
    (λ a good. tt) (λ a good. tt) refl number
    & line_closes no_shapes view always es vf_stats.Other by 4 4 Clear u64 vf_stats.Broadcast (λ size. refl) (λ a. refl)
    (λ a good. tt) (λ a good. tt) refl number
    & line_closes no_shapes view always es vf_stats.Other by 5 5 Clear u64 vf_stats.Multicast (λ size. refl) (λ a. refl)
    (λ a good. tt) (λ a good. tt) refl number
    & line_closes no_shapes view always es vf_stats.Other by 7 7 Clear u64 vf_stats.RxDropped (λ size. refl) (λ a. refl)
    (λ a good. tt) (λ a good. tt) refl number
    & line_closes no_shapes view always es vf_stats.Other by 8 8 Clear u64 vf_stats.TxDropped (λ size. refl) (λ a. refl)
    (λ a good. tt) (λ a good. tt) refl number
    & tt
    )

broadcast_plain : WritesFilled vf_info_broadcast_size vf_info_broadcast_of vf_info_broadcast_bytes
unfolding vf_info_broadcast_of vf_info_broadcast_bytes
broadcast_plain p small = refl

function_closes : (by : ℕ) → by < 256 → ClosesIn vf_info_place by Function
unfolding vf_info_place
function_closes by small =
    let view = view_of no_shapes vf_infos always vf_info_table in
    let es = entries_of no_shapes vf_infos always vf_info_table in
    by_rows vf_info_place.grammar vf_info_place.frame vf_info_place.Fits always by (rows Function) (
    line_closes no_shapes view always es vf_info.Other by 8 8 (Enter FunctionStats) (list_of vf_stats_place)
    vf_info.Stats (λ size. refl) (λ a. refl) (λ a good. tt) (λ a good. tt) refl
    (list_of_closes vf_stats_place by FunctionStats (function_stats_close by small))
    & line_closes no_shapes view always es vf_info.Other by 13 13 Clear (sized_record vf_info_broadcast_laws (lit≤ tt))
    vf_info.Broadcast (λ size. refl) (λ a. refl) (λ a good. tt) (λ a good. tt) refl
    (sized_closes by vf_info_broadcast_size vf_info_broadcast_of vf_info_broadcast_bytes broadcast_plain
    vf_info_broadcast_laws.sized Clear (clear_leaves by small))
    & tt
    )

functions_close : (by : ℕ) → by < 256 → ClosesIn link_vf_info_place by Functions
unfolding link_vf_info_place
functions_close by small =
    by_rows link_vf_info_place.grammar link_vf_info_place.frame link_vf_info_place.Fits always by (rows Functions) (
    place_of_closes link_vf_info_of link_vf_info_members (some_of vf_info_place) (λ vs. refl) IFLA_VF_INFO
    by (Enter Function) (some_of_closes vf_info_place by Function (function_closes by small)) 1
    & tt
    )

-- ** messages

abbrev ClosesUnder : ℕ → AddressFamily → ℕ → Action → Type 0
ClosesUnder by f n action = ClosesAt (attribute_place f) attribute_frame AttributeFits NotEmptyPorts by n action

-- under a family that says nothing of it
kept_under : (by : ℕ) (f : AddressFamily) (n : ℕ) → ClosesUnder by f n Keep
kept_under by f n = keep_closes (attribute_place f) attribute_frame AttributeFits NotEmptyPorts by n

proto_info_closes : (by : ℕ) → by < 256 → (f : AddressFamily) → ClosesUnder by f 12 (proto_info_action f)
unfolding attribute_place attribute_entries attribute_view af_spec proto_info link_proto_info_inet6_place
    link_proto_info_bridge_place
proto_info_closes by small family.Inet6 =
    line_closes base attribute_view NotEmptyPorts (attribute_entries family.Inet6) attribute.Other by 12 32780
    (Enter Inet6) inet6_infos attribute.ProtoInfoInet6 (λ size. refl) (λ a. refl) (λ a good. tt) (λ a good. tt) refl
    (some_of_closes link_proto_info_inet6_place by Inet6 (proto_inet6_closes by small))
proto_info_closes by small family.Bridge =
    line_closes base attribute_view NotEmptyPorts (attribute_entries family.Bridge) attribute.Other by 12 32780
    (Enter BridgePort) bridge_infos attribute.ProtoInfoBridge (λ size. refl) (λ a. refl) (λ a good. tt)
    (λ a good. tt) refl (some_of_closes link_proto_info_bridge_place by BridgePort (proto_bridge_closes by small))
proto_info_closes by small family.Unspec = kept_under by family.Unspec 12
proto_info_closes by small family.Inet = kept_under by family.Inet 12
proto_info_closes by small family.Mctp = kept_under by family.Mctp 12
proto_info_closes by small (family.Other k) = kept_under by (family.Other k) 12

af_spec_closes : (by : ℕ) → by < 256 → (f : AddressFamily) → ClosesUnder by f 26 (af_spec_action f)
unfolding attribute_place attribute_entries attribute_view af_spec proto_info
af_spec_closes by small family.Unspec =
    line_closes base attribute_view NotEmptyPorts (attribute_entries family.Unspec) attribute.Other by 26 26
    (Enter Families) unspecs_codec attribute.AfSpecUnspec (λ size. refl) (λ a. refl) (λ a good. tt) (λ a good. tt)
    refl (list_of_closes af_spec_unspec_place by Families (families_close by small))
af_spec_closes by small family.Inet6 = kept_under by family.Inet6 26
af_spec_closes by small family.Bridge = kept_under by family.Bridge 26
af_spec_closes by small family.Inet = kept_under by family.Inet 26
af_spec_closes by small family.Mctp = kept_under by family.Mctp 26
af_spec_closes by small (family.Other k) = kept_under by (family.Other k) 26

pub message_closes : (by : ℕ) → by < 256 → (f : AddressFamily)
    → Closes (attribute_place f) attribute_frame AttributeFits NotEmptyPorts by (Message f)
unfolding attribute_place attribute_entries attribute_view af_spec proto_info
message_closes by small f =
    let es = attribute_entries f in
    let count = number_closes by small w32 writes_again_4 in
    by_rows (attribute_place f) attribute_frame AttributeFits NotEmptyPorts by (rows (Message f)) (
    line_closes base attribute_view NotEmptyPorts es attribute.Other by 7 7 Clear stats.codec attribute.Stats
    (λ size. refl) (λ a. refl) (λ a good. tt) (λ a good. tt) refl
    (filled_closes by stats_size stats_of stats_bytes stats_laws.plain stats_laws.size_is Clear (clear_leaves by small))
    & proto_info_closes by small f
    & line_closes base attribute_view NotEmptyPorts es attribute.Other by 18 18 EnterInfo (some_of link_info_place)
    attribute.LinkInfo (λ size. refl) (λ a. refl) (λ a good. tt) (λ a good. tt) refl (by_kind by)
    & line_closes base attribute_view NotEmptyPorts es attribute.Other by 22 22 (Enter Functions) functions.codec
    attribute.VfInfoList (λ size. refl) (λ a. refl) (λ a good. tt) (λ a good. tt) refl
    (picked_of_closes link_vf_info_place by Functions (functions_close by small) link_vf_info_ones)
    & line_closes base attribute_view NotEmptyPorts es attribute.Other by 23 23 Clear stats64.codec attribute.Stats64
    (λ size. refl) (λ a. refl) (λ a good. tt) (λ a good. tt) refl
    (filled_closes by stats64_size stats64_of stats64_bytes stats64_laws.plain stats64_laws.size_is Clear
    (clear_leaves by small))
    & af_spec_closes by small f
    & line_closes base attribute_view NotEmptyPorts es attribute.Other by 35 35 Clear u32 attribute.CarrierChanges
    (λ size. refl) (λ a. refl) (λ a good. tt) (λ a good. tt) refl count
    & line_closes base attribute_view NotEmptyPorts es attribute.Other by 44 44 Clear link_event.codec attribute.Event
    (λ size. refl) (λ a. refl) (λ a good. tt) (λ a good. tt) refl
    (enum_closes by small w32 writes_again_4 link_event_of link_event_number link_event_again)
    & line_closes base attribute_view NotEmptyPorts es attribute.Other by 47 47 Clear u32 attribute.CarrierUpCount
    (λ size. refl) (λ a. refl) (λ a good. tt) (λ a good. tt) refl count
    & line_closes base attribute_view NotEmptyPorts es attribute.Other by 48 48 Clear u32 attribute.CarrierDownCount
    (λ size. refl) (λ a. refl) (λ a good. tt) (λ a good. tt) refl count
    & tt
    )
