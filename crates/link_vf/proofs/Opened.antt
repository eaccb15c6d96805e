-- One word that opens the place of a function's members and the bytes of their records, for `unfolding`.
use Rattle.std.specs.Prelude.{⊤}
use Rattle.link_vfrec.specs.Records.{vf_info_broadcast_bytes, vf_info_guid_bytes, vf_info_link_state_bytes}
use Rattle.link_vfrec.specs.Records.{vf_info_mac_bytes, vf_info_rate_bytes, vf_info_rss_query_en_bytes}
use Rattle.link_vfrec.specs.Records.{vf_info_spoof_check_bytes, vf_info_trust_bytes, vf_info_tx_rate_bytes}
use Rattle.link_vfrec.specs.Records.{vf_info_vlan_bytes}
use Rattle.link_vf.specs.Tables.{vf_info_place}

unfoldable pub vf_info : ⊤
unfolding vf_info_place vf_info_broadcast_bytes vf_info_guid_bytes vf_info_link_state_bytes vf_info_mac_bytes
    vf_info_rate_bytes vf_info_rss_query_en_bytes vf_info_spoof_check_bytes vf_info_trust_bytes
    vf_info_tx_rate_bytes vf_info_vlan_bytes
vf_info = tt
