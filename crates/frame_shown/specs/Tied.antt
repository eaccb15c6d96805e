-- The tables that the code goes by are those of the annex.
use Rattle.std.specs.Prelude.{◌≡◌, map}
use Rattle.frame_shown.specs.Annex as annex
use Rattle.frame_shown.specs.declared.kept.TheConstants.{FRAME_FLAGS}
use Rattle.frame_shown.specs.declared.tables.family.TheConstants.{FAMILIES, INET, INET6, MCTP, INET6_STATS}
use Rattle.frame_shown.specs.declared.tables.family.TheConstants.{MCTP_BINDINGS, ICMP6_STATS, INET_CONF, INET6_CONF}
use Rattle.frame_shown.specs.declared.tables.family.TheConstants.{CACHE_INFO, INET6_FLAGS, ADDR_GEN_MODES}
use Rattle.frame_shown.specs.declared.tables.functions.TheConstants.{VF_MAC, VF_VLAN, VF_TX_RATE, VF_SETTING}
use Rattle.frame_shown.specs.declared.tables.functions.TheConstants.{VF_LINK_STATE, VF_RATE, VF_GUID, VF_VLAN_INFO}
use Rattle.frame_shown.specs.declared.tables.functions.TheConstants.{FUNCTION, FUNCTION_STATS, FUNCTION_VLANS}
use Rattle.frame_shown.specs.declared.tables.functions.TheConstants.{VF_LINK_STATES}
use Rattle.frame_shown.specs.declared.tables.link.TheConstants.{MESSAGE, PROPS, DEVLINK_PORT, DPLL_PIN, DOWN_REASON}
use Rattle.frame_shown.specs.declared.tables.link.TheConstants.{XDP, KERNEL_NAMES}
use Rattle.frame_shown.specs.declared.tables.names.TheConstants.{OPERSTATES, LINK_MODES, EXT_MASK, LINK_FLAGS, STATS}
use Rattle.frame_shown.specs.declared.tables.names.TheConstants.{MAP, XDP_ATTACHED, EVENTS}

pub record TablesAreThese : Type 0 where
  pub operstates : map (λ name. name.now) OPERSTATES ≡ annex.operstates
  pub link_modes : map (λ name. name.now) LINK_MODES ≡ annex.link_modes
  pub ext_mask : map (λ row. (row.0, row.1.now)) EXT_MASK ≡ annex.ext_mask
  pub link_flags : map (λ row. (row.0, row.1.now)) LINK_FLAGS ≡ annex.link_flags
  pub stats : map (λ name. name.now) STATS ≡ annex.stats
  pub ifmap : map (λ part. (part.0.now, (part.1, part.2))) MAP ≡ annex.ifmap
  pub vf_mac : map (λ part. (part.0.now, (part.1, part.2))) VF_MAC ≡ annex.vf_mac
  pub vf_vlan : map (λ part. (part.0.now, (part.1, part.2))) VF_VLAN ≡ annex.vf_vlan
  pub vf_tx_rate : map (λ part. (part.0.now, (part.1, part.2))) VF_TX_RATE ≡ annex.vf_tx_rate
  pub vf_setting : map (λ part. (part.0.now, (part.1, part.2))) VF_SETTING ≡ annex.vf_setting
  pub vf_link_state : map (λ part. (part.0.now, (part.1, part.2))) VF_LINK_STATE ≡ annex.vf_link_state
  pub vf_rate : map (λ part. (part.0.now, (part.1, part.2))) VF_RATE ≡ annex.vf_rate
  pub vf_guid : map (λ part. (part.0.now, (part.1, part.2))) VF_GUID ≡ annex.vf_guid
  pub vf_vlan_info : map (λ part. (part.0.now, (part.1, part.2))) VF_VLAN_INFO ≡ annex.vf_vlan_info
  pub message : map (λ row. (row.0.now, row.1)) MESSAGE ≡ annex.message
  pub kernel_names : map (λ name. name.now) KERNEL_NAMES ≡ map (λ row. annex.kernel_name row.0) annex.message
  pub props : map (λ row. (row.0, (row.1.now, row.2))) PROPS ≡ annex.props
  pub devlink_port : map (λ row. (row.0, (row.1.now, row.2))) DEVLINK_PORT ≡ annex.devlink_port
  pub dpll_pin : map (λ row. (row.0, (row.1.now, row.2))) DPLL_PIN ≡ annex.dpll_pin
  pub down_reason : map (λ row. (row.0, (row.1.now, row.2))) DOWN_REASON ≡ annex.down_reason
  pub function : map (λ row. (row.0, (row.1.now, row.2))) FUNCTION ≡ annex.function
  pub function_stats : map (λ row. (row.0, (row.1.now, row.2))) FUNCTION_STATS ≡ annex.function_stats
  pub function_vlans : map (λ row. (row.0, (row.1.now, row.2))) FUNCTION_VLANS ≡ annex.function_vlans
  pub families : map (λ row. (row.0, (row.1.now, row.2))) FAMILIES ≡ annex.families
  pub inet : map (λ row. (row.0, (row.1.now, row.2))) INET ≡ annex.inet
  pub inet6 : map (λ row. (row.0, (row.1.now, row.2))) INET6 ≡ annex.inet6
  pub mctp : map (λ row. (row.0, (row.1.now, row.2))) MCTP ≡ annex.mctp
  pub xdp : map (λ row. (row.0, (row.1.now, row.2))) XDP ≡ annex.xdp
  pub inet6_stats : map (λ row. (row.0.now, (row.1, row.2))) INET6_STATS ≡ annex.inet6_stats
  pub mctp_bindings : map (λ name. name.now) MCTP_BINDINGS ≡ annex.mctp_bindings
  pub vf_link_states : map (λ name. name.now) VF_LINK_STATES ≡ annex.vf_link_states
  pub icmp6_stats : map (λ name. name.now) ICMP6_STATS ≡ annex.icmp6_stats
  pub inet_conf : map (λ name. name.now) INET_CONF ≡ annex.inet_conf
  pub inet6_conf : map (λ name. name.now) INET6_CONF ≡ annex.inet6_conf
  pub cache_info : map (λ name. name.now) CACHE_INFO ≡ annex.cache_info
  pub inet6_flags : map (λ row. (row.0, row.1.now)) INET6_FLAGS ≡ annex.inet6_flags
  pub addr_gen_modes : map (λ name. name.now) ADDR_GEN_MODES ≡ annex.addr_gen_modes
  pub xdp_attached : map (λ name. name.now) XDP_ATTACHED ≡ annex.xdp_attached
  pub events : map (λ name. name.now) EVENTS ≡ annex.events
  pub frame_flags : map (λ row. (row.0, row.1.now)) FRAME_FLAGS ≡ annex.frame_flags
