-- The names of values and flags, and the members of records: an annex, to be compared with rt_link.yaml and the
-- kernel's headers.
use Rattle.std.specs.Prelude.{ℕ, List, [], ◌∷◌, codes}
use Rattle.std.specs.Borrow.{Bor}
use Rattle.link_info.specs.Lent.{Names, lent}
use Rattle.link_info.specs.declared.style.Member.{Member}
use Rattle.link_info.specs.declared.style.Plain.{Plain}
use Rattle.link_info.specs.declared.style.Plain.TheVariants as P
use Rattle.link_info.specs.declared.style.Size.{Size}
use Rattle.link_info.specs.declared.style.Size.TheVariants.{Two, Four}

-- a number and its name
abbrev pub name : ℕ → List ℕ → ℕ × Bor (List ℕ)
name number text = (number, lent text)

-- a number of these names, or bits of these names, in host order and in network order
abbrev pub named : Size → Names → Plain
named size names = P.Named size (lent names)

abbrev pub network_named : Size → Names → Plain
network_named size names = P.BigEndianNamed size (lent names)

abbrev pub flags : Size → Names → Plain
flags size names = P.Flags size (lent names)

abbrev pub network_flags : Size → Names → Plain
network_flags size names = P.BigEndianFlags size (lent names)

abbrev pub member : List ℕ → Plain → Member
member text plain = record { 0 = lent text; 1 = plain }

-- ** vlans

-- protocols of vlans (`ETH_P_8021*`, linux/if_ether.h)
abbrev pub protocols : Names
protocols = name 33024 (codes "8021q") ∷ name 34984 (codes "8021ad") ∷ []

-- flags of a vlan (`enum vlan_flags`, linux/if_vlan.h)
abbrev pub vlan_flags : Names
vlan_flags =
    name 1 (codes "reorder-hdr") ∷ name 2 (codes "gvrp") ∷ name 4 (codes "loose-binding") ∷ name 8 (codes "mvrp") ∷
    name 16 (codes "bridge-binding") ∷ []

-- flags of a vlan, and which of them are meant (`struct ifla_vlan_flags`)
abbrev pub vlan_flags_members : List Member
vlan_flags_members =
    member (codes "flags") (flags Four vlan_flags) ∷
    member (codes "mask") (flags Four vlan_flags) ∷ []

-- a mapping of priorities (`struct ifla_vlan_qos_mapping`)
abbrev pub qos_mapping : List Member
qos_mapping = member (codes "from") (P.Unsigned Four) ∷ member (codes "to") (P.Unsigned Four) ∷ []

-- ** bonds

-- how a bond uses its ports (`BOND_MODE_*`, linux/if_bonding.h)
abbrev pub bond_modes : Names
bond_modes =
    name 0 (codes "balance-rr") ∷ name 1 (codes "active-backup") ∷ name 2 (codes "balance-xor") ∷
    name 3 (codes "broadcast") ∷ name 4 (codes "802.3ad") ∷ name 5 (codes "balance-tlb") ∷
    name 6 (codes "balance-alb") ∷ []

-- which ARP packets are validated
abbrev pub arp_validate : Names
arp_validate =
    name 0 (codes "none") ∷ name 1 (codes "active") ∷ name 2 (codes "backup") ∷ name 3 (codes "all") ∷
    name 4 (codes "filter") ∷ name 5 (codes "filter-active") ∷ name 6 (codes "filter-backup") ∷ []

-- how many targets have to answer
abbrev pub arp_all_targets : Names
arp_all_targets = name 0 (codes "any") ∷ name 1 (codes "all") ∷ []

-- when the primary port is chosen again
abbrev pub primary_reselect : Names
primary_reselect = name 0 (codes "always") ∷ name 1 (codes "better") ∷ name 2 (codes "failure") ∷ []

-- whose address the bond has
abbrev pub fail_over_mac : Names
fail_over_mac = name 0 (codes "none") ∷ name 1 (codes "active") ∷ name 2 (codes "follow") ∷ []

-- what a port is chosen by (`BOND_XMIT_POLICY_*`, linux/if_bonding.h)
abbrev pub xmit_hash_policies : Names
xmit_hash_policies =
    name 0 (codes "layer2") ∷ name 1 (codes "layer3+4") ∷ name 2 (codes "layer2+3") ∷ name 3 (codes "encap2+3") ∷
    name 4 (codes "encap3+4") ∷ name 5 (codes "vlan+srcmac") ∷ []

-- how often the partner sends LACP packets
abbrev pub lacp_rates : Names
lacp_rates = name 0 (codes "slow") ∷ name 1 (codes "fast") ∷ []

-- what an aggregator is chosen by
abbrev pub ad_select : Names
ad_select = name 0 (codes "stable") ∷ name 1 (codes "bandwidth") ∷ name 2 (codes "count") ∷ []

-- whether a port is in use (`BOND_STATE_*`, linux/if_bonding.h)
abbrev pub bond_states : Names
bond_states = name 0 (codes "active") ∷ name 1 (codes "backup") ∷ []

-- the link of a port (`BOND_LINK_*`, linux/if_bonding.h)
abbrev pub mii_states : Names
mii_states = name 0 (codes "up") ∷ name 1 (codes "fail") ∷ name 2 (codes "down") ∷ name 3 (codes "back") ∷ []

-- whether a port and its partner agree (`churn_state_t`, net/bond_3ad.h)
abbrev pub churn_states : Names
churn_states = name 0 (codes "monitor") ∷ name 1 (codes "churn") ∷ name 2 (codes "none") ∷ []

-- ** bridges

-- options that are on or off (`enum br_boolopt_id`, linux/if_bridge.h)
abbrev pub boolopt_bits : Names
boolopt_bits = name 1 (codes "no-ll-learn") ∷ name 2 (codes "mcast-vlan-snooping") ∷ name 4 (codes "mst-enable") ∷ []

-- what a port does with packets (`BR_STATE_*`, linux/if_bridge.h)
abbrev pub port_states : Names
port_states =
    name 0 (codes "disabled") ∷ name 1 (codes "listening") ∷ name 2 (codes "learning") ∷ name 3 (codes "forwarding") ∷
    name 4 (codes "blocking") ∷ []

-- who runs the spanning tree (`enum br_stp_mode`, linux/if_link.h)
abbrev pub stp_modes : Names
stp_modes = name 0 (codes "auto") ∷ name 1 (codes "user") ∷ name 2 (codes "kernel") ∷ []

-- the id of a bridge: its priority and its address (`struct ifla_bridge_id`)
abbrev pub bridge_id : List Member
bridge_id = member (codes "prio") (P.BigEndian Two) ∷ member (codes "addr") P.Mac ∷ []

-- options that are on or off, and which of them are meant (`struct br_boolopt_multi`, linux/if_bridge.h)
abbrev pub boolopts : List Member
boolopts =
    member (codes "optval") (flags Four boolopt_bits) ∷
    member (codes "optmask") (flags Four boolopt_bits) ∷ []

-- ** vxlans

-- when packets get the bit "don't fragment"
abbrev pub df : Names
df = name 0 (codes "unset") ∷ name 1 (codes "set") ∷ name 2 (codes "inherit") ∷ []

-- where the flow label comes from (`enum ifla_vxlan_label_policy`)
abbrev pub label_policies : Names
label_policies = name 0 (codes "fixed") ∷ name 1 (codes "inherit") ∷ []

-- ports that packets come from, the lowest and the highest (`struct ifla_vxlan_port_range`)
abbrev pub port_range : List Member
port_range = member (codes "low") (P.BigEndian Two) ∷ member (codes "high") (P.BigEndian Two) ∷ []

-- ** GRE and ERSPAN tunnels

-- how packets are encapsulated (`enum tunnel_encap_types`, linux/if_tunnel.h)
abbrev pub encaps : Names
encaps = name 0 (codes "none") ∷ name 1 (codes "fou") ∷ name 2 (codes "gue") ∷ name 3 (codes "mpls") ∷ []

-- flags of an encapsulation (`TUNNEL_ENCAP_FLAG_*`, linux/if_tunnel.h)
abbrev pub encap_flags : Names
encap_flags = name 1 (codes "csum") ∷ name 2 (codes "csum6") ∷ name 4 (codes "remcsum") ∷ []

-- flags of GRE packets (`GRE_*`, linux/if_tunnel.h)
abbrev pub gre_flags : Names
gre_flags =
    name 32768 (codes "csum") ∷ name 16384 (codes "routing") ∷ name 8192 (codes "key") ∷ name 4096 (codes "seq") ∷
    name 2048 (codes "strict") ∷ []

-- ** IP in IP tunnels

-- flags of a sit tunnel (`SIT_ISATAP`, linux/if_tunnel.h)
abbrev pub sit_flags : Names
sit_flags = name 1 (codes "isatap") ∷ []

-- ** macvlan, macvtap, ipvlan, ipvtap

-- how a macvlan passes packets on (`enum macvlan_mode`)
abbrev pub macvlan_modes : Names
macvlan_modes =
    name 1 (codes "private") ∷ name 2 (codes "vepa") ∷ name 4 (codes "bridge") ∷ name 8 (codes "passthru") ∷
    name 16 (codes "source") ∷ []

-- flags of a macvlan (`MACVLAN_FLAG_*`)
abbrev pub macvlan_flags : Names
macvlan_flags = name 1 (codes "nopromisc") ∷ name 2 (codes "nodst") ∷ []

-- what is done with addresses (`enum macvlan_macaddr_mode`)
abbrev pub macaddr_modes : Names
macaddr_modes = name 0 (codes "add") ∷ name 1 (codes "del") ∷ name 2 (codes "flush") ∷ name 3 (codes "set") ∷ []

-- how an ipvlan passes packets on (`enum ipvlan_mode`)
abbrev pub ipvlan_modes : Names
ipvlan_modes = name 0 (codes "l2") ∷ name 1 (codes "l3") ∷ name 2 (codes "l3s") ∷ []

-- flags of an ipvlan (`IPVLAN_F_*`)
abbrev pub ipvlan_flags : Names
ipvlan_flags = name 1 (codes "private") ∷ name 2 (codes "vepa") ∷ []

-- ** macsec

-- which frames are taken (`enum macsec_validation_type`)
abbrev pub validations : Names
validations = name 0 (codes "disabled") ∷ name 1 (codes "check") ∷ name 2 (codes "strict") ∷ []

-- who does the work (`enum macsec_offload`)
abbrev pub offloads : Names
offloads = name 0 (codes "off") ∷ name 1 (codes "phy") ∷ name 2 (codes "mac") ∷ []

-- ** CAN

-- what a controller makes of errors (`enum can_state`)
abbrev pub can_states : Names
can_states =
    name 0 (codes "error-active") ∷ name 1 (codes "error-warning") ∷ name 2 (codes "error-passive") ∷
    name 3 (codes "bus-off") ∷ name 4 (codes "stopped") ∷ name 5 (codes "sleeping") ∷ []

-- modes of a controller (`CAN_CTRLMODE_*`)
abbrev pub can_modes : Names
can_modes =
    name 1 (codes "loopback") ∷ name 2 (codes "listenonly") ∷ name 4 (codes "3-samples") ∷ name 8 (codes "one-shot") ∷
    name 16 (codes "berr-reporting") ∷ name 32 (codes "fd") ∷ name 64 (codes "presume-ack") ∷
    name 128 (codes "fd-non-iso") ∷ name 256 (codes "cc-len8-dlc") ∷ name 512 (codes "tdc-auto") ∷
    name 1024 (codes "tdc-manual") ∷ []

-- the timing of bits (`struct can_bittiming`)
abbrev pub bittiming : List Member
bittiming =
    member (codes "bitrate") (P.Unsigned Four) ∷
    member (codes "sample-point") (P.Unsigned Four) ∷
    member (codes "tq") (P.Unsigned Four) ∷
    member (codes "prop-seg") (P.Unsigned Four) ∷
    member (codes "phase-seg1") (P.Unsigned Four) ∷
    member (codes "phase-seg2") (P.Unsigned Four) ∷
    member (codes "sjw") (P.Unsigned Four) ∷
    member (codes "brp") (P.Unsigned Four) ∷ []

-- what timings a controller can have (`struct can_bittiming_const`): its name, with NULs after it, and limits
abbrev pub bittiming_const : List Member
bittiming_const =
    member (codes "name") (P.Octets 16) ∷
    member (codes "tseg1-min") (P.Unsigned Four) ∷
    member (codes "tseg1-max") (P.Unsigned Four) ∷
    member (codes "tseg2-min") (P.Unsigned Four) ∷
    member (codes "tseg2-max") (P.Unsigned Four) ∷
    member (codes "sjw-max") (P.Unsigned Four) ∷
    member (codes "brp-min") (P.Unsigned Four) ∷
    member (codes "brp-max") (P.Unsigned Four) ∷
    member (codes "brp-inc") (P.Unsigned Four) ∷ []

-- the clock of a controller, in Hz (`struct can_clock`)
abbrev pub can_clock : List Member
can_clock = member (codes "freq") (P.Unsigned Four) ∷ []

-- modes, and which of them are meant (`struct can_ctrlmode`)
abbrev pub can_ctrlmode_members : List Member
can_ctrlmode_members =
    member (codes "mask") (flags Four can_modes) ∷
    member (codes "flags") (flags Four can_modes) ∷ []

-- how many errors (`struct can_berr_counter`)
abbrev pub berr_counter : List Member
berr_counter =
    member (codes "txerr") (P.Unsigned Two) ∷
    member (codes "rxerr") (P.Unsigned Two) ∷ []

-- what `IFLA_INFO_XSTATS` of a CAN interface holds (`struct can_device_stats`)
abbrev pub can_counters : List Member
can_counters =
    member (codes "bus-error") (P.Unsigned Four) ∷
    member (codes "error-warning") (P.Unsigned Four) ∷
    member (codes "error-passive") (P.Unsigned Four) ∷
    member (codes "bus-off") (P.Unsigned Four) ∷
    member (codes "arbitration-lost") (P.Unsigned Four) ∷
    member (codes "restarts") (P.Unsigned Four) ∷ []

-- ** kinds with few attributes

-- what a tun device carries (`IFF_TUN`, `IFF_TAP`, linux/if_tun.h)
abbrev pub tun_types : Names
tun_types = name 1 (codes "tun") ∷ name 2 (codes "tap") ∷ []

-- what a netkit device does with packets (`enum netkit_action`, linux/if_link.h)
abbrev pub netkit_policies : Names
netkit_policies = name 0 (codes "forward") ∷ name 2 (codes "blackhole") ∷ []

-- what a netkit device carries (`enum netkit_mode`)
abbrev pub netkit_modes : Names
netkit_modes = name 0 (codes "l2") ∷ name 1 (codes "l3") ∷ []

-- what is cleared of packets (`enum netkit_scrub`)
abbrev pub netkit_scrubs : Names
netkit_scrubs = name 0 (codes "none") ∷ name 1 (codes "default") ∷ []

-- whether a netkit device has a peer (`enum netkit_pairing`)
abbrev pub netkit_pairings : Names
netkit_pairings = name 0 (codes "pair") ∷ name 1 (codes "single") ∷ []

-- protocols of redundancy (`enum hsr_proto`)
abbrev pub hsr_protocols : Names
hsr_protocols = name 0 (codes "hsr") ∷ name 1 (codes "prp") ∷ []

-- the role of a GTP tunnel (`enum ifla_gtp_role`)
abbrev pub gtp_roles : Names
gtp_roles = name 0 (codes "ggsn") ∷ name 1 (codes "sgsn") ∷ []

-- the role of an AMT tunnel (`enum amt_mode`, linux/amt.h)
abbrev pub amt_modes : Names
amt_modes = name 0 (codes "gateway") ∷ name 1 (codes "relay") ∷ []

-- how many peers an ovpn device has (`enum ovpn_mode`, linux/if_link.h)
abbrev pub ovpn_modes : Names
ovpn_modes = name 0 (codes "p2p") ∷ name 1 (codes "mp") ∷ []

-- flags of an rmnet device (`RMNET_FLAGS_*`, linux/if_link.h)
abbrev pub rmnet_bits : Names
rmnet_bits =
    name 1 (codes "ingress-deaggregation") ∷ name 2 (codes "ingress-map-commands") ∷
    name 4 (codes "ingress-map-cksumv4") ∷ name 8 (codes "egress-map-cksumv4") ∷
    name 16 (codes "ingress-map-cksumv5") ∷ name 32 (codes "egress-map-cksumv5") ∷ []

-- flags, and which of them are meant (`struct ifla_rmnet_flags`)
abbrev pub rmnet_flags : List Member
rmnet_flags =
    member (codes "flags") (flags Four rmnet_bits) ∷
    member (codes "mask") (flags Four rmnet_bits) ∷ []

-- ** by address family, and ports

-- whom a request is for (`BRIDGE_FLAGS_*`, linux/if_bridge.h)
abbrev pub bridge_flags : Names
bridge_flags = name 1 (codes "master") ∷ name 2 (codes "self") ∷ []

-- how a switch in hardware passes packets on (`BRIDGE_MODE_*`, linux/if_bridge.h)
abbrev pub bridge_modes : Names
bridge_modes = name 0 (codes "veb") ∷ name 1 (codes "vepa") ∷ []

-- flags of a vlan of a port (`BRIDGE_VLAN_INFO_*`, linux/if_bridge.h)
abbrev pub bridge_vlan_flags : Names
bridge_vlan_flags =
    name 1 (codes "master") ∷ name 2 (codes "pvid") ∷ name 4 (codes "untagged") ∷ name 8 (codes "range-begin") ∷
    name 16 (codes "range-end") ∷ name 32 (codes "brentry") ∷ name 64 (codes "only-opts") ∷ []

-- how addresses are made (`enum in6_addr_gen_mode`, linux/if_link.h)
abbrev pub addr_gen_modes : Names
addr_gen_modes =
    name 0 (codes "eui64") ∷ name 1 (codes "none") ∷ name 2 (codes "stable-privacy") ∷ name 3 (codes "random") ∷ []

-- flags of a link in IPv6 (`IF_*`, net/if_inet6.h)
abbrev pub inet6_flags : Names
inet6_flags =
    name 16 (codes "rs-sent") ∷ name 32 (codes "ra-rcvd") ∷ name 64 (codes "ra-managed") ∷
    name 128 (codes "ra-otherconf") ∷ name 2147483648 (codes "ready") ∷ []

-- what is asked of a port (`PORT_REQUEST_*`, linux/if_link.h)
abbrev pub port_requests : Names
port_requests =
    name 0 (codes "preassociate") ∷ name 1 (codes "preassociate-rr") ∷ name 2 (codes "associate") ∷
    name 3 (codes "disassociate") ∷ []

-- a vlan of a port (`struct bridge_vlan_info`)
abbrev pub vlan_info : List Member
vlan_info =
    member (codes "flags") (flags Two bridge_vlan_flags) ∷
    member (codes "vid") (P.Unsigned Two) ∷ []

-- times of a link in IPv6 (`struct ifla_cacheinfo`, linux/if_link.h)
abbrev pub cacheinfo : List Member
cacheinfo =
    member (codes "max-reasm-len") (P.Unsigned Four) ∷
    member (codes "tstamp") (P.Unsigned Four) ∷
    member (codes "reachable-time") (P.Unsigned Four) ∷
    member (codes "retrans-time") (P.Unsigned Four) ∷ []
