-- The table of the state encoding: the numbers of each list of which something moves by itself, and what becomes of
-- them.
--
-- A row has a number and an action. What no row has is kept.
use Rattle.std.specs.Prelude.{ℕ, ◌==◌, if◌then◌else◌, List, [], ◌∷◌}
use Rattle.link_vals.specs.declared.address_family.AddressFamily.{AddressFamily}
use Rattle.link_vals.specs.declared.address_family.AddressFamily.TheVariants as Family
use Rattle.link_msg.specs.declared.numbers.TheConstants.{IFLA_STATS, IFLA_STATS64, IFLA_CARRIER_CHANGES, IFLA_EVENT}
use Rattle.link_msg.specs.declared.numbers.TheConstants.{IFLA_CARRIER_UP_COUNT, IFLA_CARRIER_DOWN_COUNT}
use Rattle.link_msg.specs.declared.numbers.TheConstants.{IFLA_PROTINFO, IFLA_LINKINFO, IFLA_VFINFO_LIST, IFLA_AF_SPEC}
use Rattle.link_afspec.specs.declared.numbers.TheConstants.{AF_INET6, IFLA_INET6_STATS, IFLA_INET6_CACHEINFO}
use Rattle.link_afspec.specs.declared.numbers.TheConstants.{IFLA_INET6_ICMP6STATS}
use Rattle.link_vf.specs.declared.numbers.TheConstants.{IFLA_VF_INFO, IFLA_VF_STATS, IFLA_VF_STATS_RX_PACKETS}
use Rattle.link_vf.specs.declared.numbers.TheConstants.{IFLA_VF_STATS_TX_PACKETS, IFLA_VF_STATS_RX_BYTES}
use Rattle.link_vf.specs.declared.numbers.TheConstants.{IFLA_VF_STATS_TX_BYTES, IFLA_VF_STATS_BROADCAST}
use Rattle.link_vf.specs.declared.numbers.TheConstants.{IFLA_VF_STATS_MULTICAST, IFLA_VF_STATS_RX_DROPPED}
use Rattle.link_vf.specs.declared.numbers.TheConstants.{IFLA_VF_STATS_TX_DROPPED, IFLA_VF_BROADCAST}
use Rattle.link_state.specs.declared.numbers.TheConstants.{IFLA_INFO_DATA, IFLA_INFO_XSTATS, IFLA_INFO_SLAVE_DATA}
use Rattle.link_state.specs.declared.numbers.TheConstants.{IFLA_BR_HELLO_TIMER, IFLA_BR_TCN_TIMER}
use Rattle.link_state.specs.declared.numbers.TheConstants.{IFLA_BR_TOPOLOGY_CHANGE_TIMER, IFLA_BR_GC_TIMER}
use Rattle.link_state.specs.declared.numbers.TheConstants.{IFLA_BR_MCAST_QUERIER_STATE, IFLA_BR_FDB_N_LEARNED}
use Rattle.link_state.specs.declared.numbers.TheConstants.{BRIDGE_QUERIER_IP_OTHER_TIMER}
use Rattle.link_state.specs.declared.numbers.TheConstants.{BRIDGE_QUERIER_IPV6_OTHER_TIMER}
use Rattle.link_state.specs.declared.numbers.TheConstants.{IFLA_BRPORT_TOPOLOGY_CHANGE_ACK}
use Rattle.link_state.specs.declared.numbers.TheConstants.{IFLA_BRPORT_CONFIG_PENDING, IFLA_BRPORT_MESSAGE_AGE_TIMER}
use Rattle.link_state.specs.declared.numbers.TheConstants.{IFLA_BRPORT_MCAST_EHT_HOSTS_CNT}
use Rattle.link_state.specs.declared.numbers.TheConstants.{IFLA_BRPORT_MCAST_N_GROUPS}
use Rattle.link_state.specs.declared.numbers.TheConstants.{IFLA_BRPORT_FORWARD_DELAY_TIMER, IFLA_BRPORT_HOLD_TIMER}
use Rattle.link_state.specs.declared.numbers.TheConstants.{IFLA_BOND_SLAVE_LINK_FAILURE_COUNT}
use Rattle.link_state.specs.declared.numbers.TheConstants.{IFLA_CAN_BERR_COUNTER, IFLA_HSR_SEQ_NR}
use Rattle.link_state.specs.declared.kind.Kind.{Kind}
use Rattle.link_state.specs.declared.kind.Kind.TheVariants as kind
use Rattle.link_state.specs.declared.level.Level.{Level}
use Rattle.link_state.specs.declared.level.Level.TheVariants.{Message, Families, Inet6, Functions, Function}
use Rattle.link_state.specs.declared.level.Level.TheVariants.{FunctionStats, Info, Bridge, Querier, BridgePort}
use Rattle.link_state.specs.declared.level.Level.TheVariants.{BondPort, Can, Hsr}

-- what becomes of an attribute: it is kept; its payload becomes zeros, or its bytes from one place to before the other;
-- or its payload is a list, which is cleared in turn, that of IFLA_LINKINFO by the kinds that it names
pub data Action : Type 0 where
  Keep : Action
  Clear : Action
  ClearPart : ℕ → ℕ → Action
  Enter : Level → Action
  EnterInfo : Action

-- of IFLA_PROTINFO, by the header's family
abbrev pub proto_info_action : AddressFamily → Action
proto_info_action Family.Inet6 = Enter Inet6
proto_info_action Family.Bridge = Enter BridgePort
proto_info_action _ = Keep

-- of IFLA_AF_SPEC, by the header's family
abbrev pub af_spec_action : AddressFamily → Action
af_spec_action Family.Unspec = Enter Families
af_spec_action _ = Keep

-- of IFLA_INFO_DATA, by the kind of the device
abbrev pub data_action : Kind → Action
data_action kind.Bridge = Enter Bridge
data_action kind.Can = Enter Can
data_action kind.Hsr = Enter Hsr
data_action _ = Keep

-- of IFLA_INFO_SLAVE_DATA, by the kind of the device that it is a port of
abbrev pub slave_data_action : Kind → Action
slave_data_action kind.Bridge = Enter BridgePort
slave_data_action kind.Bond = Enter BondPort
slave_data_action _ = Keep

-- the numbers of a list of which something moves by itself
abbrev pub rows : Level → List (ℕ × Action)
rows (Message family) =
    (IFLA_STATS, Clear)
    ∷ (IFLA_PROTINFO, proto_info_action family)
    ∷ (IFLA_LINKINFO, EnterInfo)
    ∷ (IFLA_VFINFO_LIST, Enter Functions)
    ∷ (IFLA_STATS64, Clear)
    ∷ (IFLA_AF_SPEC, af_spec_action family)
    ∷ (IFLA_CARRIER_CHANGES, Clear)
    ∷ (IFLA_EVENT, Clear)
    ∷ (IFLA_CARRIER_UP_COUNT, Clear)
    ∷ (IFLA_CARRIER_DOWN_COUNT, Clear)
    ∷ []
rows Families = (AF_INET6, Enter Inet6) ∷ []
rows Inet6 =
    (IFLA_INET6_STATS, Clear)
    ∷ (IFLA_INET6_CACHEINFO, ClearPart 4 12)
    ∷ (IFLA_INET6_ICMP6STATS, Clear)
    ∷ []
rows Functions = (IFLA_VF_INFO, Enter Function) ∷ []
rows Function = (IFLA_VF_STATS, Enter FunctionStats) ∷ (IFLA_VF_BROADCAST, Clear) ∷ []
rows FunctionStats =
    (IFLA_VF_STATS_RX_PACKETS, Clear)
    ∷ (IFLA_VF_STATS_TX_PACKETS, Clear)
    ∷ (IFLA_VF_STATS_RX_BYTES, Clear)
    ∷ (IFLA_VF_STATS_TX_BYTES, Clear)
    ∷ (IFLA_VF_STATS_BROADCAST, Clear)
    ∷ (IFLA_VF_STATS_MULTICAST, Clear)
    ∷ (IFLA_VF_STATS_RX_DROPPED, Clear)
    ∷ (IFLA_VF_STATS_TX_DROPPED, Clear)
    ∷ []
rows (Info kind slave_kind) =
    (IFLA_INFO_DATA, data_action kind)
    ∷ (IFLA_INFO_XSTATS, Clear)
    ∷ (IFLA_INFO_SLAVE_DATA, slave_data_action slave_kind)
    ∷ []
rows Bridge =
    (IFLA_BR_HELLO_TIMER, Clear)
    ∷ (IFLA_BR_TCN_TIMER, Clear)
    ∷ (IFLA_BR_TOPOLOGY_CHANGE_TIMER, Clear)
    ∷ (IFLA_BR_GC_TIMER, Clear)
    ∷ (IFLA_BR_MCAST_QUERIER_STATE, Enter Querier)
    ∷ (IFLA_BR_FDB_N_LEARNED, Clear)
    ∷ []
rows Querier = (BRIDGE_QUERIER_IP_OTHER_TIMER, Clear) ∷ (BRIDGE_QUERIER_IPV6_OTHER_TIMER, Clear) ∷ []
rows BridgePort =
    (IFLA_BRPORT_TOPOLOGY_CHANGE_ACK, Clear)
    ∷ (IFLA_BRPORT_CONFIG_PENDING, Clear)
    ∷ (IFLA_BRPORT_MESSAGE_AGE_TIMER, Clear)
    ∷ (IFLA_BRPORT_FORWARD_DELAY_TIMER, Clear)
    ∷ (IFLA_BRPORT_HOLD_TIMER, Clear)
    ∷ (IFLA_BRPORT_MCAST_EHT_HOSTS_CNT, Clear)
    ∷ (IFLA_BRPORT_MCAST_N_GROUPS, Clear)
    ∷ []
rows BondPort = (IFLA_BOND_SLAVE_LINK_FAILURE_COUNT, Clear) ∷ []
rows Can = (IFLA_CAN_BERR_COUNTER, Clear) ∷ []
rows Hsr = (IFLA_HSR_SEQ_NR, Clear) ∷ []

abbrev pub find : List (ℕ × Action) → ℕ → Action
find [] n = Keep
find (row ∷ rs) n = if n == row.0 then row.1 else find rs n

-- what becomes of the attributes of this number
abbrev pub action_of : Level → ℕ → Action
action_of level n = find (rows level) n
