-- The rows of the table: of each number what is read once it is filled was read before.
use Rattle.std.proofs.Common.{ℕ, refl, lit≤}
use Rattle.std.specs.Int.{w32, w64}
use Rattle.nla_wire.specs.Payloads as payload
use Rattle.nla_wire.proofs.Lawful.{always}
use Rattle.nla_wire.proofs.Codec.{Place, u32, u64, sized_record, list_of, some_of}
use Rattle.nla_wire.proofs.Variants.{no_shapes, view_of, entries_of}
use Rattle.link_vals.specs.LinkEventTable.{link_event_of}
use Rattle.link_vals.specs.declared.address_family.AddressFamily.{AddressFamily}
use Rattle.link_vals.specs.declared.address_family.AddressFamily.TheVariants as family
use Rattle.link_recs.specs.StatsFields.{stats_of}
use Rattle.link_recs.specs.Stats64Fields.{stats64_of}
use Rattle.link_recs.specs.Inet6StatsFields.{inet6_stats_of}
use Rattle.link_recs.specs.Icmp6StatsFields.{icmp6_stats_of}
use Rattle.link_recs.specs.Inet6CacheInfoFields.{inet6_cache_info_size, inet6_cache_info_of}
use Rattle.link_vfrec.specs.Records.{vf_info_broadcast_size, vf_info_broadcast_of}
use Rattle.link_vfrec.specs.Laws.{vf_info_broadcast_laws}
use Rattle.link_vf.specs.Tables.{vf_stats_place, vf_stats_table, vf_info_place, vf_info_table, link_vf_info_place}
use Rattle.link_vf.specs.Tables.{link_vf_info_of}
use Rattle.link_vf.specs.declared.numbers.TheConstants.{IFLA_VF_INFO}
use Rattle.link_vf.specs.declared.stats.VfStats.TheVariants as vf_stats
use Rattle.link_vf.specs.contracts.stats.VfStats.{enum as vf_statistics}
use Rattle.link_vf.specs.declared.vf_info.VfInfo.TheVariants as vf_info
use Rattle.link_vf.specs.contracts.vf_info.VfInfo.{enum as vf_infos}
use Rattle.link_nest.specs.Tables.{link_info_place, link_info_table}
use Rattle.link_nest.specs.declared.link_info.LinkInfo.TheVariants as info
use Rattle.link_nest.specs.contracts.link_info.LinkInfo.{enum as infos}
use Rattle.link_afspec.specs.Tables.{af_spec_inet6_place, af_spec_inet6_table, inet6_stats, icmp6_stats}
use Rattle.link_afspec.specs.Tables.{inet6_cache_info}
use Rattle.link_afspec.specs.Tables.{af_spec_unspec_place, af_spec_unspec_table}
use Rattle.link_afspec.specs.Tables.{link_proto_info_inet6_place, link_proto_info_inet6_table}
use Rattle.link_afspec.specs.Tables.{link_proto_info_bridge_place, link_proto_info_bridge_table}
use Rattle.link_afspec.specs.declared.inet6.AfSpecInet6.TheVariants as inet6
use Rattle.link_afspec.specs.contracts.inet6.AfSpecInet6.{enum as inet6s}
use Rattle.link_afspec.specs.declared.unspec.AfSpecUnspec.TheVariants as unspec
use Rattle.link_afspec.specs.contracts.unspec.AfSpecUnspec.{enum as unspecs}
use Rattle.link_afspec.specs.declared.proto_inet6.LinkProtoInfoInet6.TheVariants as proto_inet6
use Rattle.link_afspec.specs.contracts.proto_inet6.LinkProtoInfoInet6.{enum as proto_inet6s}
use Rattle.link_afspec.specs.declared.proto_bridge.LinkProtoInfoBridge.TheVariants as proto_bridge
use Rattle.link_afspec.specs.contracts.proto_bridge.LinkProtoInfoBridge.{enum as proto_bridges}
use Rattle.link_msg.specs.Tables.{base, attribute_place, attribute_entries, attribute_view}
use Rattle.link_msg.specs.Tables.{NotEmptyPorts, stats, stats64, functions, link_event, af_spec}
use Rattle.link_msg.specs.Tables.{proto_info, unspecs as unspecs_codec, inet6_infos, bridge_infos}
use Rattle.link_msg.specs.declared.attribute.LinkAttribute.TheVariants as attribute
use Rattle.link_state.specs.Table.{rows, proto_info_action, af_spec_action, data_action, slave_data_action}
use Rattle.link_state.specs.Cleared.{info_level}
use Rattle.link_state.specs.declared.kind.Kind.{Kind}
use Rattle.link_state.specs.declared.level.Level.{Level}
use Rattle.link_state.specs.declared.level.Level.TheVariants.{Message, Families, Inet6, Functions, Function}
use Rattle.link_state.specs.declared.level.Level.TheVariants.{FunctionStats, Info, BridgePort}
use Rattle.link_state.specs.Table.{Action}
use Rattle.link_state.specs.Table.Action.{Keep, Clear, ClearPart, Enter, EnterInfo}
use Rattle.link_state.proofs.Closing.{◌&◌}
use Rattle.link_state.proofs.Before.{ReadBefore, FrameBefore, LevelBefore, rows_before, keep_before, line_before}
use Rattle.link_state.proofs.Before.{kept_before, place_before, number_before, filled_before, sized_before, as_before}
use Rattle.link_state.proofs.Before.{list_before, some_before, picked_before}

abbrev BeforeIn : {V : Type 0} → Place V → ℕ → Level → Type 0
BeforeIn p by level = LevelBefore p.grammar by level

-- ** settings of IPv6

inet6_before : (by : ℕ) → BeforeIn af_spec_inet6_place by Inet6
unfolding af_spec_inet6_place
inet6_before by =
    let view = view_of no_shapes inet6s always af_spec_inet6_table in
    let es = entries_of no_shapes inet6s always af_spec_inet6_table in
    rows_before af_spec_inet6_place.grammar by (rows Inet6) (
    line_before no_shapes view always es inet6.Other by 3 Clear inet6_stats.grammar inet6.Stats (λ size. refl)
    (filled_before by inet6_stats_of Clear)
    & line_before no_shapes view always es inet6.Other by 5 (ClearPart 4 12) inet6_cache_info.grammar inet6.CacheInfo
    (λ size. refl) (sized_before by inet6_cache_info_size inet6_cache_info_of (ClearPart 4 12))
    & line_before no_shapes view always es inet6.Other by 6 Clear icmp6_stats.grammar inet6.Icmp6Stats (λ size. refl)
    (filled_before by icmp6_stats_of Clear)
    & tt
    )

families_before : (by : ℕ) → BeforeIn af_spec_unspec_place by Families
unfolding af_spec_unspec_place
families_before by =
    let view = view_of no_shapes unspecs always af_spec_unspec_table in
    let es = entries_of no_shapes unspecs always af_spec_unspec_table in
    rows_before af_spec_unspec_place.grammar by (rows Families) (
    line_before no_shapes view always es unspec.Other by 10 (Enter Inet6) (some_of af_spec_inet6_place).grammar
    unspec.Inet6 (λ size. refl) (some_before af_spec_inet6_place.grammar by Inet6 (inet6_before by))
    & tt
    )

-- ** what is kept undecoded

info_before : (by : ℕ) (kind slave_kind : Kind) → BeforeIn link_info_place by (Info kind slave_kind)
unfolding link_info_place
info_before by kind slave_kind =
    let view = view_of no_shapes infos always link_info_table in
    let es = entries_of no_shapes infos always link_info_table in
    rows_before link_info_place.grammar by (rows (Info kind slave_kind)) (
    kept_before no_shapes view always es info.Other by 2 (data_action kind) (λ size. refl)
    & kept_before no_shapes view always es info.Other by 3 Clear (λ size. refl)
    & kept_before no_shapes view always es info.Other by 5 (slave_data_action slave_kind) (λ size. refl)
    & tt
    )

-- by the kinds that are named
by_kind : (by : ℕ) → ReadBefore (some_of link_info_place).grammar by EnterInfo
by_kind by p vs small means =
    some_before link_info_place.grammar by (info_level p) (info_before by _ _) p vs small means

proto_inet6_before : (by : ℕ) → BeforeIn link_proto_info_inet6_place by Inet6
unfolding link_proto_info_inet6_place
proto_inet6_before by =
    let view = view_of no_shapes proto_inet6s always link_proto_info_inet6_table in
    let es = entries_of no_shapes proto_inet6s always link_proto_info_inet6_table in
    let at = λ (n : ℕ) (action : Action).
    kept_before no_shapes view always es proto_inet6.Other by n action (λ size. refl) in
    rows_before link_proto_info_inet6_place.grammar by (rows Inet6)
    (at 3 Clear & at 5 (ClearPart 4 12) & at 6 Clear & tt)

proto_bridge_before : (by : ℕ) → BeforeIn link_proto_info_bridge_place by BridgePort
unfolding link_proto_info_bridge_place
proto_bridge_before by =
    let view = view_of no_shapes proto_bridges always link_proto_info_bridge_table in
    let es = entries_of no_shapes proto_bridges always link_proto_info_bridge_table in
    let at = λ (n : ℕ).
    kept_before no_shapes view always es proto_bridge.Other by n Clear (λ size. refl) in
    rows_before link_proto_info_bridge_place.grammar by (rows BridgePort)
    (at 19 & at 20 & at 21 & at 22 & at 23 & at 38 & at 41 & tt)

-- ** virtual functions

function_stats_before : (by : ℕ) → BeforeIn vf_stats_place by FunctionStats
unfolding vf_stats_place
function_stats_before by =
    let view = view_of no_shapes vf_statistics always vf_stats_table in
    let es = entries_of no_shapes vf_statistics always vf_stats_table in
    let g = u64.grammar in
    let number = number_before by w64 in
    rows_before vf_stats_place.grammar by (rows FunctionStats) (
    line_before no_shapes view always es vf_stats.Other by 0 Clear g vf_stats.RxPackets (λ size. refl) number
    & line_before no_shapes view always es vf_stats.Other by 1 Clear g vf_stats.TxPackets (λ size. refl) number
    & line_before no_shapes view always es vf_stats.Other by 2 Clear g vf_stats.RxBytes (λ size. refl) number
    & line_before no_shapes view always es vf_stats.Other by 3 Clear g vf_stats.TxBytes (λ size. refl) number
    & line_before no_shapes view always es vf_stats.Other by 4 Clear g vf_stats.Broadcast (λ size. refl) number
    & line_before no_shapes view always es vf_stats.Other by 5 Clear g vf_stats.Multicast (λ size. refl) number
    & line_before no_shapes view always es vf_stats.Other by 7 Clear g vf_stats.RxDropped (λ size. refl) number
    & line_before no_shapes view always es vf_stats.Other by 8 Clear g vf_stats.TxDropped (λ size. refl) number
    & tt
    )

function_before : (by : ℕ) → BeforeIn vf_info_place by Function
unfolding vf_info_place
function_before by =
    let view = view_of no_shapes vf_infos always vf_info_table in
    let es = entries_of no_shapes vf_infos always vf_info_table in
    rows_before vf_info_place.grammar by (rows Function) (
    line_before no_shapes view always es vf_info.Other by 8 (Enter FunctionStats) (list_of vf_stats_place).grammar
    vf_info.Stats (λ size. refl) (list_before vf_stats_place.grammar by FunctionStats (function_stats_before by))
    & line_before no_shapes view always es vf_info.Other by 13 Clear
    (sized_record vf_info_broadcast_laws (lit≤ tt)).grammar
    vf_info.Broadcast (λ size. refl) (sized_before by vf_info_broadcast_size vf_info_broadcast_of Clear)
    & tt
    )

functions_before : (by : ℕ) → BeforeIn link_vf_info_place by Functions
unfolding link_vf_info_place
functions_before by =
    rows_before link_vf_info_place.grammar by (rows Functions) (
    place_before link_vf_info_of (some_of vf_info_place).grammar by IFLA_VF_INFO (Enter Function)
    (some_before vf_info_place.grammar by Function (function_before by))
    & tt
    )

-- ** messages

abbrev BeforeUnder : ℕ → AddressFamily → ℕ → Action → Type 0
BeforeUnder by f n action = FrameBefore (attribute_place f) by n action

-- under a family that says nothing of it
kept_under : (by : ℕ) (f : AddressFamily) (n : ℕ) → BeforeUnder by f n Keep
kept_under by f n = keep_before (attribute_place f) by n

proto_info_before : (by : ℕ) (f : AddressFamily) → BeforeUnder by f 12 (proto_info_action f)
unfolding attribute_place attribute_entries attribute_view af_spec proto_info link_proto_info_inet6_place
    link_proto_info_bridge_place
proto_info_before by family.Inet6 =
    line_before base attribute_view NotEmptyPorts (attribute_entries family.Inet6) attribute.Other by 12 (Enter Inet6)
    inet6_infos.grammar attribute.ProtoInfoInet6 (λ size. refl)
    (some_before link_proto_info_inet6_place.grammar by Inet6 (proto_inet6_before by))
proto_info_before by family.Bridge =
    line_before base attribute_view NotEmptyPorts (attribute_entries family.Bridge) attribute.Other by 12
    (Enter BridgePort) bridge_infos.grammar attribute.ProtoInfoBridge (λ size. refl)
    (some_before link_proto_info_bridge_place.grammar by BridgePort (proto_bridge_before by))
proto_info_before by family.Unspec = kept_under by family.Unspec 12
proto_info_before by family.Inet = kept_under by family.Inet 12
proto_info_before by family.Mctp = kept_under by family.Mctp 12
proto_info_before by (family.Other k) = kept_under by (family.Other k) 12

af_spec_before : (by : ℕ) (f : AddressFamily) → BeforeUnder by f 26 (af_spec_action f)
unfolding attribute_place attribute_entries attribute_view af_spec proto_info
af_spec_before by family.Unspec =
    line_before base attribute_view NotEmptyPorts (attribute_entries family.Unspec) attribute.Other by 26
    (Enter Families) unspecs_codec.grammar attribute.AfSpecUnspec (λ size. refl)
    (list_before af_spec_unspec_place.grammar by Families (families_before by))
af_spec_before by family.Inet6 = kept_under by family.Inet6 26
af_spec_before by family.Bridge = kept_under by family.Bridge 26
af_spec_before by family.Inet = kept_under by family.Inet 26
af_spec_before by family.Mctp = kept_under by family.Mctp 26
af_spec_before by (family.Other k) = kept_under by (family.Other k) 26

pub message_before : (by : ℕ) (f : AddressFamily) → LevelBefore (attribute_place f) by (Message f)
unfolding attribute_place attribute_entries attribute_view af_spec proto_info
message_before by f =
    let es = attribute_entries f in
    let count = number_before by w32 in
    rows_before (attribute_place f) by (rows (Message f)) (
    line_before base attribute_view NotEmptyPorts es attribute.Other by 7 Clear stats.codec.grammar attribute.Stats
    (λ size. refl) (filled_before by stats_of Clear)
    & proto_info_before by f
    & line_before base attribute_view NotEmptyPorts es attribute.Other by 18 EnterInfo (some_of link_info_place).grammar
    attribute.LinkInfo (λ size. refl) (by_kind by)
    & line_before base attribute_view NotEmptyPorts es attribute.Other by 22 (Enter Functions) functions.codec.grammar
    attribute.VfInfoList (λ size. refl) (picked_before link_vf_info_place.grammar by Functions (functions_before by))
    & line_before base attribute_view NotEmptyPorts es attribute.Other by 23 Clear stats64.codec.grammar
    attribute.Stats64 (λ size. refl) (filled_before by stats64_of Clear)
    & af_spec_before by f
    & line_before base attribute_view NotEmptyPorts es attribute.Other by 35 Clear u32.grammar attribute.CarrierChanges
    (λ size. refl) count
    & line_before base attribute_view NotEmptyPorts es attribute.Other by 44 Clear link_event.codec.grammar
    attribute.Event (λ size. refl) (as_before link_event_of (payload.number_of w32) by Clear count)
    & line_before base attribute_view NotEmptyPorts es attribute.Other by 47 Clear u32.grammar attribute.CarrierUpCount
    (λ size. refl) count
    & line_before base attribute_view NotEmptyPorts es attribute.Other by 48 Clear u32.grammar
    attribute.CarrierDownCount (λ size. refl) count
    & tt
    )
