-- What is shown of virtual functions and ports is of what they mean: a line for each row of their tables.
use Rattle.std.proofs.Common.{[], ℕ, suc, refl, ap}
use Rattle.std.specs.Int.{w64}
use Rattle.link_info.specs.declared.place.Place.TheVariants as Places
use Rattle.link_info.specs.declared.style.Size.TheVariants as Sizes
use Rattle.link_vf.specs.Tables as functions
use Rattle.link_vf.specs.contracts.stats.VfStats.{enum as statistics}
use Rattle.link_vf.specs.contracts.vf_info.VfInfo.{enum as infos}
use Rattle.link_vf.specs.contracts.vf_port.VfPort.{enum as ports}
use Rattle.link_vf.specs.contracts.vf_vlan.VfVlan.{enum as vlans}
use Rattle.link_vf.specs.declared.stats.VfStats.TheVariants as stats
use Rattle.link_vf.specs.declared.vf_info.VfInfo.TheVariants as info
use Rattle.link_vf.specs.declared.vf_port.VfPort.TheVariants as port
use Rattle.link_vf.specs.declared.vf_vlan.VfVlan.TheVariants as vlan
use Rattle.link_vfrec.specs.Records as records
use Rattle.nla_wire.specs.Frames.{Frame}
use Rattle.nla_wire.specs.Grammar.{as_a, list, not_empty, picked}
use Rattle.nla_wire.specs.Payloads as payload
use Rattle.nla_wire.specs.Sizes.{plain_growth, inner_small}
use Rattle.frame_shown.specs.Frames.{frame_item, levels}
use Rattle.frame_shown.specs.Items.{members_of}
use Rattle.frame_shown.specs.Tables.{lists_in}
use Rattle.frame_shown.specs.Values.{Nesting, form_shown}
use Rattle.frame_shown.specs.declared.form.Around.{Around}
use Rattle.frame_shown.specs.declared.form.Field.TheVariants as Kinds
use Rattle.frame_shown.specs.declared.form.Form.TheVariants as Forms
use Rattle.frame_shown.specs.declared.form.Group.TheVariants as Groups
use Rattle.frame_shown.specs.declared.form.List.TheVariants as Shapes
use Rattle.frame_shown.specs.declared.form.Record.TheVariants as Records
use Rattle.frame_shown.specs.declared.form.Table.TheVariants as Tables
use Rattle.frame_shown.proofs.Alike.{OfFrames, OfMeaning, of_some, of_table, through, unless_empty}
use Rattle.frame_shown.proofs.FunctionsMeant.{functions_meant}
use Rattle.frame_shown.proofs.Rows.{◌&◌, bytes_eight, entries_alike, entry_members, named_list, own_list, place_list}
use Rattle.frame_shown.proofs.Rows.{row, shown_alike}

module _ (nest : Nesting) (cx : Around) where
  stats_alike : OfFrames functions.vf_stats_place.grammar (frame_item nest cx (Shapes.Own Tables.FunctionStats))
  unfolding functions.vf_stats_place
  stats_alike =
      let at = row nest cx (Shapes.Own Tables.FunctionStats) in
      let eight = bytes_eight nest cx in
      of_table statistics plain_growth 0 inner_small functions.vf_stats_table stats.Other (λ f. refl) tt tt tt
      (frame_item nest cx (Shapes.Own Tables.FunctionStats))
      (at 0 (Forms.Number Sizes.Eight) _ _ (payload.number_of w64) stats.RxPackets refl (λ p. refl) eight
      & at 1 (Forms.Number Sizes.Eight) _ _ (payload.number_of w64) stats.TxPackets refl (λ p. refl) eight
      & at 2 (Forms.Number Sizes.Eight) _ _ (payload.number_of w64) stats.RxBytes refl (λ p. refl) eight
      & at 3 (Forms.Number Sizes.Eight) _ _ (payload.number_of w64) stats.TxBytes refl (λ p. refl) eight
      & at 4 (Forms.Number Sizes.Eight) _ _ (payload.number_of w64) stats.Broadcast refl (λ p. refl) eight
      & at 5 (Forms.Number Sizes.Eight) _ _ (payload.number_of w64) stats.Multicast refl (λ p. refl) eight
      & at 7 (Forms.Number Sizes.Eight) _ _ (payload.number_of w64) stats.RxDropped refl (λ p. refl) eight
      & at 8 (Forms.Number Sizes.Eight) _ _ (payload.number_of w64) stats.TxDropped refl (λ p. refl) eight
      & (λ one. tt)
      & tt)

  vlans_alike : OfFrames functions.vf_vlan_place.grammar
      (frame_item nest cx (Shapes.Listed Groups.Info Tables.FunctionVlans))
  unfolding functions.vf_vlan_place
  vlans_alike =
      let at = row nest cx (Shapes.Listed Groups.Info Tables.FunctionVlans) in
      of_table vlans plain_growth 0 inner_small functions.vf_vlan_table vlan.Other (λ f. refl) tt tt tt
      (frame_item nest cx (Shapes.Listed Groups.Info Tables.FunctionVlans))
      (at 1 (Forms.Record Records.VfVlanInfo) _ _ (payload.sized records.vf_vlan_info_size records.vf_vlan_info_of)
      vlan.Info refl (λ p. refl) (shown_alike (payload.sized records.vf_vlan_info_size records.vf_vlan_info_of)
      (form_shown nest cx (Forms.Record Records.VfVlanInfo)) _ (functions_meant nest cx).vlan_infos)
      & (λ one. tt)
      & tt)

-- the members of a function
functions_alike : (n : ℕ) (cx : Around)
    → OfFrames functions.vf_info_place.grammar (frame_item (levels (suc n) cx) cx (Shapes.Own Tables.Function))
unfolding functions.vf_info_place functions.vf_stats_place functions.vf_vlan_place
functions_alike n cx =
    let nest = levels (suc n) cx in
    let at = row nest cx (Shapes.Own Tables.Function) in
    let said = functions_meant nest cx in
    of_table infos plain_growth 0 inner_small functions.vf_info_table info.Other (λ f. refl) tt tt tt
    (frame_item nest cx (Shapes.Own Tables.Function))
    (at 1 (Forms.Record Records.VfMac) _ _ (payload.sized records.vf_info_mac_size records.vf_info_mac_of) info.Mac refl
    (λ p. refl) (shown_alike (payload.sized records.vf_info_mac_size records.vf_info_mac_of)
    (form_shown nest cx (Forms.Record Records.VfMac)) _ said.macs)
    & at 2 (Forms.Record Records.VfVlan) _ _ (payload.sized records.vf_info_vlan_size records.vf_info_vlan_of) info.Vlan
    refl (λ p. refl) (shown_alike (payload.sized records.vf_info_vlan_size records.vf_info_vlan_of)
    (form_shown nest cx (Forms.Record Records.VfVlan)) _ said.vlans)
    & at 3 (Forms.Record Records.VfTxRate) _ _ (payload.sized records.vf_info_tx_rate_size records.vf_info_tx_rate_of)
    info.TxRate refl (λ p. refl) (shown_alike (payload.sized records.vf_info_tx_rate_size records.vf_info_tx_rate_of)
    (form_shown nest cx (Forms.Record Records.VfTxRate)) _ said.tx_rates)
    & at 4 (Forms.Record Records.VfSetting) _ _
    (payload.sized records.vf_info_spoof_check_size records.vf_info_spoof_check_of) info.SpoofCheck refl (λ p. refl)
    (shown_alike (payload.sized records.vf_info_spoof_check_size records.vf_info_spoof_check_of)
    (form_shown nest cx (Forms.Record Records.VfSetting)) _ said.spoof_checks)
    & at 5 (Forms.Record Records.VfLinkState) _ _
    (payload.sized records.vf_info_link_state_size records.vf_info_link_state_of) info.LinkState refl (λ p. refl)
    (shown_alike (payload.sized records.vf_info_link_state_size records.vf_info_link_state_of)
    (form_shown nest cx (Forms.Record Records.VfLinkState)) _ said.link_states)
    & at 6 (Forms.Record Records.VfRate) _ _ (payload.sized records.vf_info_rate_size records.vf_info_rate_of) info.Rate
    refl (λ p. refl) (shown_alike (payload.sized records.vf_info_rate_size records.vf_info_rate_of)
    (form_shown nest cx (Forms.Record Records.VfRate)) _ said.rates)
    & at 7 (Forms.Record Records.VfSetting) _ _
    (payload.sized records.vf_info_rss_query_en_size records.vf_info_rss_query_en_of) info.RssQueryEn refl (λ p. refl)
    (shown_alike (payload.sized records.vf_info_rss_query_en_size records.vf_info_rss_query_en_of)
    (form_shown nest cx (Forms.Record Records.VfSetting)) _ said.rss_queries)
    & at 8 (Forms.List (Shapes.Own Tables.FunctionStats)) _ _ (list functions.vf_stats_place.grammar) info.Stats refl
    (λ p. refl)
    (own_list n cx functions.vf_stats_place.grammar Tables.FunctionStats (stats_alike (levels n cx) cx))
    & at 9 (Forms.Record Records.VfSetting) _ _ (payload.sized records.vf_info_trust_size records.vf_info_trust_of)
    info.Trust refl (λ p. refl) (shown_alike (payload.sized records.vf_info_trust_size records.vf_info_trust_of)
    (form_shown nest cx (Forms.Record Records.VfSetting)) _ said.trusts)
    & at 10 (Forms.Record Records.VfGuid) _ _ (payload.sized records.vf_info_guid_size records.vf_info_guid_of)
    info.IbNodeGuid refl (λ p. refl) (shown_alike (payload.sized records.vf_info_guid_size records.vf_info_guid_of)
    (form_shown nest cx (Forms.Record Records.VfGuid)) _ said.guids)
    & at 11 (Forms.Record Records.VfGuid) _ _ (payload.sized records.vf_info_guid_size records.vf_info_guid_of)
    info.IbPortGuid refl (λ p. refl) (shown_alike (payload.sized records.vf_info_guid_size records.vf_info_guid_of)
    (form_shown nest cx (Forms.Record Records.VfGuid)) _ said.guids)
    & at 12 (Forms.List (Shapes.Listed Groups.Info Tables.FunctionVlans)) _ _ (list functions.vf_vlan_place.grammar)
    info.VlanList refl (λ p. refl)
    (named_list n cx functions.vf_vlan_place.grammar Groups.Info Tables.FunctionVlans (vlans_alike (levels n cx) cx))
    & at 13 (Forms.Field Kinds.Address) _ _
    (payload.sized records.vf_info_broadcast_size records.vf_info_broadcast_of) info.Broadcast refl (λ p. refl)
    (shown_alike (payload.sized records.vf_info_broadcast_size records.vf_info_broadcast_of)
    (form_shown nest cx (Forms.Field Kinds.Address)) _ said.broadcasts)
    & (λ one. tt)
    & tt)

-- no number of a port is listed: all frames are kept
ports_alike : {X : Type 0} (said : Frame → X) → OfFrames functions.vf_port_place.grammar said
unfolding functions.vf_port_place
ports_alike said = of_table ports plain_growth 0 inner_small functions.vf_port_table port.Other (λ f. refl) tt tt tt
    said ((λ one. tt) & tt)

-- ** entries

function_alike : (n : ℕ) (cx : Around) → OfFrames functions.link_vf_info_place.grammar
    (entry_members (levels (suc n) cx) cx (Shapes.Own Tables.Function))
unfolding functions.link_vf_info_place functions.vf_info_place
function_alike n cx f h v one two a b =
    through (not_empty (list functions.vf_info_place.grammar))
    (λ p. entry_members (levels (suc n) cx) cx (Shapes.Own Tables.Function) (record { kind = 0; payload = p }))
    functions.link_vf_info_of functions.link_vf_info_members (λ p vs small means. refl)
    (λ p q vs small_p small_q c d. ap (members_of [])
    (of_some functions.vf_info_place.grammar (frame_item (levels (suc n) cx) cx (Shapes.Own Tables.Function))
    (functions_alike n cx) p q vs small_p small_q c d))
    f.payload h.payload v one.bytes two.bytes a b

port_alike : (nest : Nesting) (cx : Around) → OfFrames functions.link_vf_port_place.grammar
    (entry_members nest cx (Shapes.Of Places.Port))
unfolding functions.link_vf_port_place functions.vf_port_place
port_alike nest cx f h v one two a b =
    through (not_empty (list functions.vf_port_place.grammar))
    (λ p. entry_members nest cx (Shapes.Of Places.Port) (record { kind = 0; payload = p }))
    functions.link_vf_port_of functions.link_vf_port_members (λ p vs small means. refl)
    (λ p q vs small_p small_q c d. ap (members_of (lists_in cx (Shapes.Of Places.Port)))
    (of_some functions.vf_port_place.grammar (frame_item nest cx (Shapes.Of Places.Port))
    (ports_alike (frame_item nest cx (Shapes.Of Places.Port))) p q vs small_p small_q c d))
    f.payload h.payload v one.bytes two.bytes a b

-- ** the three lists

pub function_list : (n : ℕ) (cx : Around) → OfMeaning (picked functions.link_vf_info_place.grammar)
    (form_shown (levels (suc (suc n)) cx) cx (Forms.List (Shapes.Entries Groups.Info)))
function_list n cx = entries_alike (suc n) cx Groups.Info functions.link_vf_info_place.grammar (function_alike n cx)

pub port_list : (n : ℕ) (cx : Around) → OfMeaning (not_empty (picked functions.link_vf_port_place.grammar))
    (form_shown (levels (suc n) cx) cx (Forms.List (Shapes.Entries Groups.Port)))
port_list n cx = unless_empty (picked functions.link_vf_port_place.grammar)
    (form_shown (levels (suc n) cx) cx (Forms.List (Shapes.Entries Groups.Port)))
    (entries_alike n cx Groups.Port functions.link_vf_port_place.grammar (port_alike (levels n cx) cx))

pub own_port : (n : ℕ) (cx : Around)
    → OfMeaning (as_a functions.link_vf_port_of (not_empty (list functions.vf_port_place.grammar)))
    (form_shown (levels (suc n) cx) cx (Forms.List (Shapes.Of Places.Port)))
own_port n cx = through (not_empty (list functions.vf_port_place.grammar))
    (form_shown (levels (suc n) cx) cx (Forms.List (Shapes.Of Places.Port)))
    functions.link_vf_port_of functions.link_vf_port_members (λ p vs small means. refl)
    (unless_empty (list functions.vf_port_place.grammar)
    (form_shown (levels (suc n) cx) cx (Forms.List (Shapes.Of Places.Port)))
    (place_list n cx functions.vf_port_place.grammar Places.Port
    (ports_alike (frame_item (levels n cx) cx (Shapes.Of Places.Port)))))
