-- The records of virtual functions: their fields at their places, and their bytes (linux/if_link.h).
use Rattle.std.specs.Prelude.{ℕ, List, [], ◌∷◌, ◌++◌, drop}
use Rattle.std.specs.Int.{w16, w32, w64, to_le_bytes, to_be_bytes}
use Rattle.nla_wire.specs.Fields.{number_at, be_number_at, zero_filled}
use Rattle.link_vals.specs.VfLinkStateTable.{vf_link_state_of, vf_link_state_number}
use Rattle.link_vals.specs.VlanProtocolTable.{vlan_protocol_of, vlan_protocol_number}
use Rattle.link_vfrec.specs.Truth.{is_on, on_number}
use Rattle.link_vfrec.specs.declared.mac.VfInfoMac.{VfInfoMac}
use Rattle.link_vfrec.specs.declared.broadcast.VfInfoBroadcast.{VfInfoBroadcast}
use Rattle.link_vfrec.specs.declared.vlan.VfInfoVlan.{VfInfoVlan}
use Rattle.link_vfrec.specs.declared.tx_rate.VfInfoTxRate.{VfInfoTxRate}
use Rattle.link_vfrec.specs.declared.rate.VfInfoRate.{VfInfoRate}
use Rattle.link_vfrec.specs.declared.spoofchk.VfInfoSpoofCheck.{VfInfoSpoofCheck}
use Rattle.link_vfrec.specs.declared.rss_query.VfInfoRssQueryEn.{VfInfoRssQueryEn}
use Rattle.link_vfrec.specs.declared.trust.VfInfoTrust.{VfInfoTrust}
use Rattle.link_vfrec.specs.declared.link_state.VfInfoLinkState.{VfInfoLinkState}
use Rattle.link_vfrec.specs.declared.guid.VfInfoGuid.{VfInfoGuid}
use Rattle.link_vfrec.specs.declared.vf_vlan.VfVlanInfo.{VfVlanInfo}
use Rattle.link_vfrec.specs.declared.mac.TheConstants.{VF_INFO_MAC_SIZE}
use Rattle.link_vfrec.specs.declared.broadcast.TheConstants.{VF_INFO_BROADCAST_SIZE}
use Rattle.link_vfrec.specs.declared.vlan.TheConstants.{VF_INFO_VLAN_SIZE}
use Rattle.link_vfrec.specs.declared.tx_rate.TheConstants.{VF_INFO_TX_RATE_SIZE}
use Rattle.link_vfrec.specs.declared.rate.TheConstants.{VF_INFO_RATE_SIZE}
use Rattle.link_vfrec.specs.declared.spoofchk.TheConstants.{VF_INFO_SPOOF_CHECK_SIZE}
use Rattle.link_vfrec.specs.declared.rss_query.TheConstants.{VF_INFO_RSS_QUERY_EN_SIZE}
use Rattle.link_vfrec.specs.declared.trust.TheConstants.{VF_INFO_TRUST_SIZE}
use Rattle.link_vfrec.specs.declared.link_state.TheConstants.{VF_INFO_LINK_STATE_SIZE}
use Rattle.link_vfrec.specs.declared.guid.TheConstants.{VF_INFO_GUID_SIZE}
use Rattle.link_vfrec.specs.declared.vf_vlan.TheConstants.{VF_VLAN_INFO_SIZE}

-- ** VfInfoMac

abbrev pub vf_info_mac_size : ℕ
vf_info_mac_size = VF_INFO_MAC_SIZE

unfoldable pub vf_info_mac_of : List ℕ → VfInfoMac
vf_info_mac_of payload = record { vf_id = number_at w32 payload 0; mac = zero_filled 32 (drop 4 payload) }

unfoldable pub vf_info_mac_bytes : VfInfoMac → List ℕ
vf_info_mac_bytes v = to_le_bytes w32 v.vf_id ++ v.mac

-- ** VfInfoBroadcast

abbrev pub vf_info_broadcast_size : ℕ
vf_info_broadcast_size = VF_INFO_BROADCAST_SIZE

unfoldable pub vf_info_broadcast_of : List ℕ → VfInfoBroadcast
vf_info_broadcast_of payload = record { addr = zero_filled 32 payload }

unfoldable pub vf_info_broadcast_bytes : VfInfoBroadcast → List ℕ
vf_info_broadcast_bytes v = v.addr

-- ** VfInfoVlan

abbrev pub vf_info_vlan_size : ℕ
vf_info_vlan_size = VF_INFO_VLAN_SIZE

unfoldable pub vf_info_vlan_of : List ℕ → VfInfoVlan
vf_info_vlan_of payload =
    record { vf_id = number_at w32 payload 0; vlan_id = number_at w32 payload 4; qos = number_at w32 payload 8 }

unfoldable pub vf_info_vlan_bytes : VfInfoVlan → List ℕ
vf_info_vlan_bytes v = to_le_bytes w32 v.vf_id ++ to_le_bytes w32 v.vlan_id ++ to_le_bytes w32 v.qos

-- ** VfInfoTxRate

abbrev pub vf_info_tx_rate_size : ℕ
vf_info_tx_rate_size = VF_INFO_TX_RATE_SIZE

unfoldable pub vf_info_tx_rate_of : List ℕ → VfInfoTxRate
vf_info_tx_rate_of payload = record { vf_id = number_at w32 payload 0; rate = number_at w32 payload 4 }

unfoldable pub vf_info_tx_rate_bytes : VfInfoTxRate → List ℕ
vf_info_tx_rate_bytes v = to_le_bytes w32 v.vf_id ++ to_le_bytes w32 v.rate

-- ** VfInfoRate

abbrev pub vf_info_rate_size : ℕ
vf_info_rate_size = VF_INFO_RATE_SIZE

unfoldable pub vf_info_rate_of : List ℕ → VfInfoRate
vf_info_rate_of payload = record {
  vf_id = number_at w32 payload 0;
  min_tx_rate = number_at w32 payload 4;
  max_tx_rate = number_at w32 payload 8;
}

unfoldable pub vf_info_rate_bytes : VfInfoRate → List ℕ
vf_info_rate_bytes v = to_le_bytes w32 v.vf_id ++ to_le_bytes w32 v.min_tx_rate ++ to_le_bytes w32 v.max_tx_rate

-- ** VfInfoSpoofCheck

abbrev pub vf_info_spoof_check_size : ℕ
vf_info_spoof_check_size = VF_INFO_SPOOF_CHECK_SIZE

unfoldable pub vf_info_spoof_check_of : List ℕ → VfInfoSpoofCheck
vf_info_spoof_check_of payload = record { vf_id = number_at w32 payload 0; enabled = is_on (number_at w32 payload 4) }

unfoldable pub vf_info_spoof_check_bytes : VfInfoSpoofCheck → List ℕ
vf_info_spoof_check_bytes v = to_le_bytes w32 v.vf_id ++ to_le_bytes w32 (on_number v.enabled)

-- ** VfInfoRssQueryEn

abbrev pub vf_info_rss_query_en_size : ℕ
vf_info_rss_query_en_size = VF_INFO_RSS_QUERY_EN_SIZE

unfoldable pub vf_info_rss_query_en_of : List ℕ → VfInfoRssQueryEn
vf_info_rss_query_en_of payload = record { vf_id = number_at w32 payload 0; enabled = is_on (number_at w32 payload 4) }

unfoldable pub vf_info_rss_query_en_bytes : VfInfoRssQueryEn → List ℕ
vf_info_rss_query_en_bytes v = to_le_bytes w32 v.vf_id ++ to_le_bytes w32 (on_number v.enabled)

-- ** VfInfoTrust

abbrev pub vf_info_trust_size : ℕ
vf_info_trust_size = VF_INFO_TRUST_SIZE

unfoldable pub vf_info_trust_of : List ℕ → VfInfoTrust
vf_info_trust_of payload = record { vf_id = number_at w32 payload 0; enabled = is_on (number_at w32 payload 4) }

unfoldable pub vf_info_trust_bytes : VfInfoTrust → List ℕ
vf_info_trust_bytes v = to_le_bytes w32 v.vf_id ++ to_le_bytes w32 (on_number v.enabled)

-- ** VfInfoLinkState

abbrev pub vf_info_link_state_size : ℕ
vf_info_link_state_size = VF_INFO_LINK_STATE_SIZE

unfoldable pub vf_info_link_state_of : List ℕ → VfInfoLinkState
vf_info_link_state_of payload =
    record { vf_id = number_at w32 payload 0; state = vf_link_state_of (number_at w32 payload 4) }

unfoldable pub vf_info_link_state_bytes : VfInfoLinkState → List ℕ
vf_info_link_state_bytes v = to_le_bytes w32 v.vf_id ++ to_le_bytes w32 (vf_link_state_number v.state)

-- ** VfInfoGuid

abbrev pub vf_info_guid_size : ℕ
vf_info_guid_size = VF_INFO_GUID_SIZE

unfoldable pub vf_info_guid_of : List ℕ → VfInfoGuid
vf_info_guid_of payload = record { vf_id = number_at w32 payload 0; guid = number_at w64 payload 8 }

unfoldable pub vf_info_guid_bytes : VfInfoGuid → List ℕ
vf_info_guid_bytes v = to_le_bytes w32 v.vf_id ++ (0 ∷ 0 ∷ 0 ∷ 0 ∷ []) ++ to_le_bytes w64 v.guid

-- ** VfVlanInfo

abbrev pub vf_vlan_info_size : ℕ
vf_vlan_info_size = VF_VLAN_INFO_SIZE

unfoldable pub vf_vlan_info_of : List ℕ → VfVlanInfo
vf_vlan_info_of payload = record {
  vf_id = number_at w32 payload 0;
  vlan_id = number_at w32 payload 4;
  qos = number_at w32 payload 8;
  protocol = vlan_protocol_of (be_number_at w16 payload 12);
}

unfoldable pub vf_vlan_info_bytes : VfVlanInfo → List ℕ
vf_vlan_info_bytes v = to_le_bytes w32 v.vf_id ++ to_le_bytes w32 v.vlan_id ++ to_le_bytes w32 v.qos
    ++ to_be_bytes w16 (vlan_protocol_number v.protocol) ++ (0 ∷ 0 ∷ [])
