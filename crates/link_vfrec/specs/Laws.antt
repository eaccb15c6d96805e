-- The laws of each record, from its fields.
use Rattle.std.proofs.Common.{◌≡◌, ℕ, Bool, true, false, refl, ap, ◌∙◌, arith}
use Rattle.std.specs.Int.{w16, w32, w64, to_le_bytes, from_le_bytes, to_be_bytes, from_be_bytes}
use Rattle.nla_wire.specs.Fields.{number_at, be_number_at}
use Rattle.nla_wire.specs.Records.{RecordLaws}
use Rattle.nla_wire.proofs.FieldLemmas.{from_le_bytes-to_le_bytes}
use Rattle.nla_wire.proofs.RecordParts.{Part, ◌&◌, laws_of, number, number_as, be_number_as, bytes, padding}
use Rattle.link_vals.specs.declared.vlan_protocol.VlanProtocol.{VlanProtocol}
use Rattle.link_vals.specs.declared.vlan_protocol.VlanProtocol.TheVariants.{Ieee8021Q, Ieee8021Ad}
use Rattle.link_vals.specs.VlanProtocolTable.{vlan_protocol_of, vlan_protocol_number}
use Rattle.link_vals.specs.VfLinkStateTable.{vf_link_state_of, vf_link_state_number}
use Rattle.link_vfrec.specs.Truth.{is_on, on_number}
use Rattle.link_vfrec.specs.Records.{vf_info_mac_size, vf_info_mac_of, vf_info_mac_bytes, vf_info_broadcast_size}
use Rattle.link_vfrec.specs.Records.{vf_info_broadcast_of, vf_info_broadcast_bytes, vf_info_vlan_size}
use Rattle.link_vfrec.specs.Records.{vf_info_vlan_of, vf_info_vlan_bytes, vf_info_tx_rate_size, vf_info_tx_rate_of}
use Rattle.link_vfrec.specs.Records.{vf_info_tx_rate_bytes, vf_info_rate_size, vf_info_rate_of, vf_info_rate_bytes}
use Rattle.link_vfrec.specs.Records.{vf_info_spoof_check_size, vf_info_spoof_check_of, vf_info_spoof_check_bytes}
use Rattle.link_vfrec.specs.Records.{vf_info_rss_query_en_size, vf_info_rss_query_en_of, vf_info_rss_query_en_bytes}
use Rattle.link_vfrec.specs.Records.{vf_info_trust_size, vf_info_trust_of, vf_info_trust_bytes}
use Rattle.link_vfrec.specs.Records.{vf_info_link_state_size, vf_info_link_state_of, vf_info_link_state_bytes}
use Rattle.link_vfrec.specs.Records.{vf_info_guid_size, vf_info_guid_of, vf_info_guid_bytes, vf_vlan_info_size}
use Rattle.link_vfrec.specs.Records.{vf_vlan_info_of, vf_vlan_info_bytes}

-- ** settings, states and protocols

on_again : (on : Bool) → is_on (from_le_bytes w32 (to_le_bytes w32 (on_number on))) ≡ on
on_again true = refl
on_again false = refl

setting : Part 4 (λ p x. is_on (number_at w32 p x)) (λ on. to_le_bytes w32 (on_number on))
setting = number_as w32 is_on on_number (λ n h. on_again (is_on n))

number_of_state : (n : ℕ) → vf_link_state_number (vf_link_state_of n) ≡ n
unfolding vf_link_state_number vf_link_state_of
number_of_state n = grind arith

state : Part 4 (λ p x. vf_link_state_of (number_at w32 p x)) (λ s. to_le_bytes w32 (vf_link_state_number s))
state = number_as w32 vf_link_state_of vf_link_state_number (λ n h.
    ap vf_link_state_of
    (ap (λ x. from_le_bytes w32 (to_le_bytes w32 x)) (number_of_state n) ∙ from_le_bytes-to_le_bytes w32 n h))

protocol_again : (v : VlanProtocol)
    → vlan_protocol_of (from_be_bytes w16 (to_be_bytes w16 (vlan_protocol_number v))) ≡ v
unfolding vlan_protocol_of vlan_protocol_number
protocol_again Ieee8021Q = refl
protocol_again Ieee8021Ad = refl

protocol : Part 2 (λ p x. vlan_protocol_of (be_number_at w16 p x)) (λ v. to_be_bytes w16 (vlan_protocol_number v))
protocol = be_number_as vlan_protocol_of vlan_protocol_number (λ n h. protocol_again (vlan_protocol_of n))

-- ** records

pub vf_info_mac_laws : RecordLaws vf_info_mac_size vf_info_mac_of vf_info_mac_bytes
unfolding vf_info_mac_of vf_info_mac_bytes
vf_info_mac_laws = laws_of (number w32 & bytes 32)
    (λ v. record { vf_id = v.0; mac = v.1 }) vf_info_mac_of vf_info_mac_bytes (λ p. refl) (λ p. refl)

pub vf_info_broadcast_laws : RecordLaws vf_info_broadcast_size vf_info_broadcast_of vf_info_broadcast_bytes
unfolding vf_info_broadcast_of vf_info_broadcast_bytes
vf_info_broadcast_laws =
    laws_of (bytes 32) (λ v. record { addr = v }) vf_info_broadcast_of vf_info_broadcast_bytes (λ p. refl) (λ p. refl)

pub vf_info_vlan_laws : RecordLaws vf_info_vlan_size vf_info_vlan_of vf_info_vlan_bytes
unfolding vf_info_vlan_of vf_info_vlan_bytes
vf_info_vlan_laws =
    laws_of (number w32 & number w32 & number w32) (λ v. record { vf_id = v.0; vlan_id = v.1.0; qos = v.1.1 })
    vf_info_vlan_of vf_info_vlan_bytes (λ p. refl) (λ p. refl)

pub vf_info_tx_rate_laws : RecordLaws vf_info_tx_rate_size vf_info_tx_rate_of vf_info_tx_rate_bytes
unfolding vf_info_tx_rate_of vf_info_tx_rate_bytes
vf_info_tx_rate_laws = laws_of (number w32 & number w32)
    (λ v. record { vf_id = v.0; rate = v.1 }) vf_info_tx_rate_of vf_info_tx_rate_bytes (λ p. refl) (λ p. refl)

pub vf_info_rate_laws : RecordLaws vf_info_rate_size vf_info_rate_of vf_info_rate_bytes
unfolding vf_info_rate_of vf_info_rate_bytes
vf_info_rate_laws = laws_of (number w32 & number w32 & number w32)
    (λ v. record { vf_id = v.0; min_tx_rate = v.1.0; max_tx_rate = v.1.1 }) vf_info_rate_of vf_info_rate_bytes
    (λ p. refl) (λ p. refl)

pub vf_info_spoof_check_laws : RecordLaws vf_info_spoof_check_size vf_info_spoof_check_of vf_info_spoof_check_bytes
unfolding vf_info_spoof_check_of vf_info_spoof_check_bytes
vf_info_spoof_check_laws = laws_of (number w32 & setting) (λ v. record { vf_id = v.0; enabled = v.1 })
    vf_info_spoof_check_of vf_info_spoof_check_bytes (λ p. refl) (λ p. refl)

pub vf_info_rss_query_en_laws : RecordLaws vf_info_rss_query_en_size vf_info_rss_query_en_of vf_info_rss_query_en_bytes
unfolding vf_info_rss_query_en_of vf_info_rss_query_en_bytes
vf_info_rss_query_en_laws = laws_of (number w32 & setting) (λ v. record { vf_id = v.0; enabled = v.1 })
    vf_info_rss_query_en_of vf_info_rss_query_en_bytes (λ p. refl) (λ p. refl)

pub vf_info_trust_laws : RecordLaws vf_info_trust_size vf_info_trust_of vf_info_trust_bytes
unfolding vf_info_trust_of vf_info_trust_bytes
vf_info_trust_laws = laws_of (number w32 & setting)
    (λ v. record { vf_id = v.0; enabled = v.1 }) vf_info_trust_of vf_info_trust_bytes (λ p. refl) (λ p. refl)

pub vf_info_link_state_laws : RecordLaws vf_info_link_state_size vf_info_link_state_of vf_info_link_state_bytes
unfolding vf_info_link_state_of vf_info_link_state_bytes
vf_info_link_state_laws = laws_of (number w32 & state)
    (λ v. record { vf_id = v.0; state = v.1 }) vf_info_link_state_of vf_info_link_state_bytes (λ p. refl) (λ p. refl)

pub vf_info_guid_laws : RecordLaws vf_info_guid_size vf_info_guid_of vf_info_guid_bytes
unfolding vf_info_guid_of vf_info_guid_bytes
vf_info_guid_laws = laws_of (number w32 & padding 4 & number w64)
    (λ v. record { vf_id = v.0; guid = v.1.1 }) vf_info_guid_of vf_info_guid_bytes (λ p. refl) (λ p. refl)

pub vf_vlan_info_laws : RecordLaws vf_vlan_info_size vf_vlan_info_of vf_vlan_info_bytes
unfolding vf_vlan_info_of vf_vlan_info_bytes
vf_vlan_info_laws = laws_of (number w32 & number w32 & number w32 & protocol & padding 2)
    (λ v. record { vf_id = v.0; vlan_id = v.1.0; qos = v.1.1.0; protocol = v.1.1.1.0 }) vf_vlan_info_of
    vf_vlan_info_bytes (λ p. refl) (λ p. refl)
