-- The tables that the code goes by are those of the annex, by computation.
use Rattle.std.proofs.Common.{refl}
use Rattle.frame_shown.specs.declared.kept.TheConstants.{FRAME_FLAGS}
use Rattle.frame_shown.specs.declared.tables.family.TheConstants.{FAMILIES, INET, INET6, MCTP, INET6_STATS}
use Rattle.frame_shown.specs.declared.tables.family.TheConstants.{MCTP_BINDINGS, ICMP6_STATS, INET_CONF, INET6_CONF}
use Rattle.frame_shown.specs.declared.tables.family.TheConstants.{CACHE_INFO, INET6_FLAGS, ADDR_GEN_MODES}
use Rattle.frame_shown.specs.declared.tables.functions.TheConstants.{VF_MAC, VF_VLAN, VF_TX_RATE, VF_SETTING}
use Rattle.frame_shown.specs.declared.tables.functions.TheConstants.{VF_LINK_STATE, VF_RATE, VF_GUID, VF_VLAN_INFO}
use Rattle.frame_shown.specs.declared.tables.functions.TheConstants.{FUNCTION, FUNCTION_STATS, FUNCTION_VLANS}
use Rattle.frame_shown.specs.declared.tables.functions.TheConstants.{VF_LINK_STATES}
use Rattle.frame_shown.specs.declared.tables.link.TheConstants.{MESSAGE, PROPS, DEVLINK_PORT, DPLL_PIN, DOWN_REASON}
use Rattle.frame_shown.specs.declared.tables.link.TheConstants.{XDP, KERNEL_NAMES}
use Rattle.frame_shown.specs.declared.tables.names.TheConstants.{OPERSTATES, LINK_MODES, EXT_MASK, LINK_FLAGS, STATS}
use Rattle.frame_shown.specs.declared.tables.names.TheConstants.{MAP, XDP_ATTACHED, EVENTS}
use Rattle.frame_shown.specs.Tied.{TablesAreThese}

pub tables_are_these : TablesAreThese
unfolding OPERSTATES LINK_MODES EXT_MASK LINK_FLAGS STATS MAP VF_MAC VF_VLAN VF_TX_RATE VF_SETTING VF_LINK_STATE
    VF_RATE VF_GUID VF_VLAN_INFO MESSAGE KERNEL_NAMES PROPS DEVLINK_PORT DPLL_PIN DOWN_REASON FUNCTION FUNCTION_STATS
    FUNCTION_VLANS FAMILIES INET INET6 MCTP XDP INET6_STATS MCTP_BINDINGS VF_LINK_STATES ICMP6_STATS INET_CONF
    INET6_CONF CACHE_INFO INET6_FLAGS ADDR_GEN_MODES XDP_ATTACHED EVENTS FRAME_FLAGS
tables_are_these = record {
  operstates = refl;
  link_modes = refl;
  ext_mask = refl;
  link_flags = refl;
  stats = refl;
  ifmap = refl;
  vf_mac = refl;
  vf_vlan = refl;
  vf_tx_rate = refl;
  vf_setting = refl;
  vf_link_state = refl;
  vf_rate = refl;
  vf_guid = refl;
  vf_vlan_info = refl;
  message = refl;
  kernel_names = refl;
  props = refl;
  devlink_port = refl;
  dpll_pin = refl;
  down_reason = refl;
  function = refl;
  function_stats = refl;
  function_vlans = refl;
  families = refl;
  inet = refl;
  inet6 = refl;
  mctp = refl;
  xdp = refl;
  inet6_stats = refl;
  mctp_bindings = refl;
  vf_link_states = refl;
  icmp6_stats = refl;
  inet_conf = refl;
  inet6_conf = refl;
  cache_info = refl;
  inet6_flags = refl;
  addr_gen_modes = refl;
  xdp_attached = refl;
  events = refl;
  frame_flags = refl;
}
