-- The rows of each place: an annex, to be compared with rt_link.yaml and the kernel's headers.
use Rattle.std.specs.Prelude.{◌≡◌, ℕ, List, [], ◌∷◌, Option, None, Some, codes, map}
use Rattle.std.specs.Borrow.{Bor}
use Rattle.link_info.specs.Lent.{lent, row_now}
use Rattle.link_info.specs.Places.{rows_of}
use Rattle.link_info.specs.declared.place.Place.{Place}
use Rattle.link_info.specs.declared.place.Place.TheVariants as Places
use Rattle.link_info.specs.declared.style.Element.TheVariants as E
use Rattle.link_info.specs.declared.style.Member.{Member}
use Rattle.link_info.specs.declared.style.Plain.TheVariants as P
use Rattle.link_info.specs.declared.style.Row.{Row}
use Rattle.link_info.specs.declared.style.Size.TheVariants.{One, Two, Four, Eight}
use Rattle.link_info.specs.declared.style.Style.{Style}
use Rattle.link_info.specs.declared.style.Style.TheVariants as S
use Rattle.link_info.specs.Values.{ad_select, addr_gen_modes, amt_modes, arp_all_targets, arp_validate, berr_counter}
use Rattle.link_info.specs.Values.{bittiming, bittiming_const, bond_modes, bond_states, boolopts, bridge_flags}
use Rattle.link_info.specs.Values.{bridge_id, bridge_modes, bridge_vlan_flags, cacheinfo, can_clock}
use Rattle.link_info.specs.Values.{can_ctrlmode_members, can_modes, can_states, churn_states, df, encap_flags, encaps}
use Rattle.link_info.specs.Values.{fail_over_mac, flags, gre_flags, gtp_roles, hsr_protocols, inet6_flags}
use Rattle.link_info.specs.Values.{ipvlan_flags, ipvlan_modes, label_policies, lacp_rates, macaddr_modes}
use Rattle.link_info.specs.Values.{macvlan_flags, macvlan_modes, mii_states, named, netkit_modes, netkit_pairings}
use Rattle.link_info.specs.Values.{netkit_policies, netkit_scrubs, network_flags, network_named, offloads, ovpn_modes}
use Rattle.link_info.specs.Values.{port_range, port_requests, port_states, primary_reselect, protocols, qos_mapping}
use Rattle.link_info.specs.Values.{rmnet_flags, sit_flags, stp_modes, tun_types, validations, vlan_flags_members}
use Rattle.link_info.specs.Values.{vlan_info, xmit_hash_policies}

-- number, name, and how the payload is spelled
abbrev pub row : ℕ → List ℕ → Style → Row
row number text style = record { 0 = number; 1 = lent text; 2 = style }

abbrev pub u8 : Style
u8 = S.Plain (P.Unsigned One)

abbrev pub u16 : Style
u16 = S.Plain (P.Unsigned Two)

abbrev pub u32 : Style
u32 = S.Plain (P.Unsigned Four)

abbrev pub u64 : Style
u64 = S.Plain (P.Unsigned Eight)

abbrev pub i32 : Style
i32 = S.Plain (P.Signed Four)

abbrev pub be16 : Style
be16 = S.Plain (P.BigEndian Two)

abbrev pub be32 : Style
be32 = S.Plain (P.BigEndian Four)

abbrev pub be64 : Style
be64 = S.Plain (P.BigEndian Eight)

abbrev pub mac : Style
mac = S.Plain P.Mac

abbrev pub ipv4 : Style
ipv4 = S.Plain P.Ipv4

abbrev pub ipv6 : Style
ipv6 = S.Plain P.Ipv6

-- a record of these members
abbrev pub record_of : List Member → Style
record_of members = S.Record (lent members)

-- one value of a list: such a record, or attributes of this place
abbrev pub each_record_of : List Member → Style
each_record_of members = S.Each (E.Record (lent members))

abbrev pub each_nest : Place → Style
each_nest place = S.Each (E.Nest place)

-- ** vlans

-- the data of a vlan
abbrev pub vlan_rows : List Row
vlan_rows =
    row 1 (codes "id") u16 ∷
    row 2 (codes "flag") (record_of vlan_flags_members) ∷
    row 3 (codes "egress-qos") (S.Nest Places.VlanQos) ∷
    row 4 (codes "ingress-qos") (S.Nest Places.VlanQos) ∷
    row 5 (codes "protocol") (S.Plain (network_named Two protocols)) ∷ []

-- mappings of priorities
abbrev pub vlan_qos_rows : List Row
vlan_qos_rows = row 1 (codes "mapping") (each_record_of qos_mapping) ∷ []

-- ** bonds

-- the data of a bond
abbrev pub bond_rows : List Row
bond_rows =
    row 1 (codes "mode") (S.Plain (named One bond_modes)) ∷
    row 2 (codes "active-slave") u32 ∷
    row 3 (codes "miimon") u32 ∷
    row 4 (codes "updelay") u32 ∷
    row 5 (codes "downdelay") u32 ∷
    row 6 (codes "use-carrier") u8 ∷
    row 7 (codes "arp-interval") u32 ∷
    row 8 (codes "arp-ip-target") (S.List P.Ipv4) ∷
    row 9 (codes "arp-validate") (S.Plain (named Four arp_validate)) ∷
    row 10 (codes "arp-all-targets") (S.Plain (named Four arp_all_targets)) ∷
    row 11 (codes "primary") u32 ∷
    row 12 (codes "primary-reselect") (S.Plain (named One primary_reselect)) ∷
    row 13 (codes "fail-over-mac") (S.Plain (named One fail_over_mac)) ∷
    row 14 (codes "xmit-hash-policy") (S.Plain (named One xmit_hash_policies)) ∷
    row 15 (codes "resend-igmp") u32 ∷
    row 16 (codes "num-peer-notif") u8 ∷
    row 17 (codes "all-slaves-active") u8 ∷
    row 18 (codes "min-links") u32 ∷
    row 19 (codes "lp-interval") u32 ∷
    row 20 (codes "packets-per-slave") u32 ∷
    row 21 (codes "ad-lacp-rate") (S.Plain (named One lacp_rates)) ∷
    row 22 (codes "ad-select") (S.Plain (named One ad_select)) ∷
    row 23 (codes "ad-info") (S.Nest Places.BondAdInfo) ∷
    row 24 (codes "ad-actor-sys-prio") u16 ∷
    row 25 (codes "ad-user-port-key") u16 ∷
    row 26 (codes "ad-actor-system") mac ∷
    row 27 (codes "tlb-dynamic-lb") u8 ∷
    row 28 (codes "peer-notif-delay") u32 ∷
    row 29 (codes "ad-lacp-active") u8 ∷
    row 30 (codes "missed-max") u8 ∷
    row 31 (codes "ns-ip6-target") (S.List P.Ipv6) ∷
    row 32 (codes "coupled-control") u8 ∷
    row 33 (codes "broadcast-neigh") u8 ∷
    row 34 (codes "lacp-strict") u8 ∷ []

-- the aggregator in use
abbrev pub bond_ad_info_rows : List Row
bond_ad_info_rows =
    row 1 (codes "aggregator") u16 ∷
    row 2 (codes "num-ports") u16 ∷
    row 3 (codes "actor-key") u16 ∷
    row 4 (codes "partner-key") u16 ∷
    row 5 (codes "partner-mac") mac ∷ []

-- the data of a port of a bond
abbrev pub bond_slave_rows : List Row
bond_slave_rows =
    row 1 (codes "state") (S.Plain (named One bond_states)) ∷
    row 2 (codes "mii-status") (S.Plain (named One mii_states)) ∷
    row 3 (codes "link-failure-count") u32 ∷
    row 4 (codes "perm-hwaddr") mac ∷
    row 5 (codes "queue-id") u16 ∷
    row 6 (codes "ad-aggregator-id") u16 ∷
    row 7 (codes "ad-actor-oper-port-state") u8 ∷
    row 8 (codes "ad-partner-oper-port-state") u16 ∷
    row 9 (codes "prio") i32 ∷
    row 10 (codes "actor-port-prio") u16 ∷
    row 11 (codes "ad-churn-actor-state") (S.Plain (named One churn_states)) ∷
    row 12 (codes "ad-churn-partner-state") (S.Plain (named One churn_states)) ∷ []

-- ** bridges

-- the data of a bridge
abbrev pub bridge_rows : List Row
bridge_rows =
    row 1 (codes "forward-delay") u32 ∷
    row 2 (codes "hello-time") u32 ∷
    row 3 (codes "max-age") u32 ∷
    row 4 (codes "ageing-time") u32 ∷
    row 5 (codes "stp-state") u32 ∷
    row 6 (codes "priority") u16 ∷
    row 7 (codes "vlan-filtering") u8 ∷
    row 8 (codes "vlan-protocol") (S.Plain (network_named Two protocols)) ∷
    row 9 (codes "group-fwd-mask") u16 ∷
    row 10 (codes "root-id") (record_of bridge_id) ∷
    row 11 (codes "bridge-id") (record_of bridge_id) ∷
    row 12 (codes "root-port") u16 ∷
    row 13 (codes "root-path-cost") u32 ∷
    row 14 (codes "topology-change") u8 ∷
    row 15 (codes "topology-change-detected") u8 ∷
    row 16 (codes "hello-timer") u64 ∷
    row 17 (codes "tcn-timer") u64 ∷
    row 18 (codes "topology-change-timer") u64 ∷
    row 19 (codes "gc-timer") u64 ∷
    row 20 (codes "group-addr") mac ∷
    row 21 (codes "fdb-flush") S.Flag ∷
    row 22 (codes "mcast-router") u8 ∷
    row 23 (codes "mcast-snooping") u8 ∷
    row 24 (codes "mcast-query-use-ifaddr") u8 ∷
    row 25 (codes "mcast-querier") u8 ∷
    row 26 (codes "mcast-hash-elasticity") u32 ∷
    row 27 (codes "mcast-hash-max") u32 ∷
    row 28 (codes "mcast-last-member-cnt") u32 ∷
    row 29 (codes "mcast-startup-query-cnt") u32 ∷
    row 30 (codes "mcast-last-member-intvl") u64 ∷
    row 31 (codes "mcast-membership-intvl") u64 ∷
    row 32 (codes "mcast-querier-intvl") u64 ∷
    row 33 (codes "mcast-query-intvl") u64 ∷
    row 34 (codes "mcast-query-response-intvl") u64 ∷
    row 35 (codes "mcast-startup-query-intvl") u64 ∷
    row 36 (codes "nf-call-iptables") u8 ∷
    row 37 (codes "nf-call-ip6-tables") u8 ∷
    row 38 (codes "nf-call-arptables") u8 ∷
    row 39 (codes "vlan-default-pvid") u16 ∷
    row 41 (codes "vlan-stats-enabled") u8 ∷
    row 42 (codes "mcast-stats-enabled") u8 ∷
    row 43 (codes "mcast-igmp-version") u8 ∷
    row 44 (codes "mcast-mld-version") u8 ∷
    row 45 (codes "vlan-stats-per-port") u8 ∷
    row 46 (codes "multi-boolopt") (record_of boolopts) ∷
    row 47 (codes "mcast-querier-state") (S.Nest Places.BridgeQuerier) ∷
    row 48 (codes "fdb-n-learned") u32 ∷
    row 49 (codes "fdb-max-learned") u32 ∷
    row 50 (codes "stp-mode") (S.Plain (named Four stp_modes)) ∷ []

-- who asks for multicast groups (`BRIDGE_QUERIER_*`, linux/if_bridge.h)
abbrev pub bridge_querier_rows : List Row
bridge_querier_rows =
    row 1 (codes "ip-address") ipv4 ∷
    row 2 (codes "ip-port") u32 ∷
    row 3 (codes "ip-other-timer") u64 ∷
    row 5 (codes "ipv6-address") ipv6 ∷
    row 6 (codes "ipv6-port") u32 ∷
    row 7 (codes "ipv6-other-timer") u64 ∷ []

-- the data of a port of a bridge
abbrev pub bridge_port_rows : List Row
bridge_port_rows =
    row 1 (codes "state") (S.Plain (named One port_states)) ∷
    row 2 (codes "priority") u16 ∷
    row 3 (codes "cost") u32 ∷
    row 4 (codes "mode") u8 ∷
    row 5 (codes "guard") u8 ∷
    row 6 (codes "protect") u8 ∷
    row 7 (codes "fast-leave") u8 ∷
    row 8 (codes "learning") u8 ∷
    row 9 (codes "unicast-flood") u8 ∷
    row 10 (codes "proxyarp") u8 ∷
    row 11 (codes "learning-sync") u8 ∷
    row 12 (codes "proxyarp-wifi") u8 ∷
    row 13 (codes "root-id") (record_of bridge_id) ∷
    row 14 (codes "bridge-id") (record_of bridge_id) ∷
    row 15 (codes "designated-port") u16 ∷
    row 16 (codes "designated-cost") u16 ∷
    row 17 (codes "id") u16 ∷
    row 18 (codes "no") u16 ∷
    row 19 (codes "topology-change-ack") u8 ∷
    row 20 (codes "config-pending") u8 ∷
    row 21 (codes "message-age-timer") u64 ∷
    row 22 (codes "forward-delay-timer") u64 ∷
    row 23 (codes "hold-timer") u64 ∷
    row 24 (codes "flush") S.Flag ∷
    row 25 (codes "multicast-router") u8 ∷
    row 27 (codes "mcast-flood") u8 ∷
    row 28 (codes "mcast-to-ucast") u8 ∷
    row 29 (codes "vlan-tunnel") u8 ∷
    row 30 (codes "bcast-flood") u8 ∷
    row 31 (codes "group-fwd-mask") u16 ∷
    row 32 (codes "neigh-suppress") u8 ∷
    row 33 (codes "isolated") u8 ∷
    row 34 (codes "backup-port") u32 ∷
    row 35 (codes "mrp-ring-open") u8 ∷
    row 36 (codes "mrp-in-open") u8 ∷
    row 37 (codes "mcast-eht-hosts-limit") u32 ∷
    row 38 (codes "mcast-eht-hosts-cnt") u32 ∷
    row 39 (codes "locked") u8 ∷
    row 40 (codes "mab") u8 ∷
    row 41 (codes "mcast-n-groups") u32 ∷
    row 42 (codes "mcast-max-groups") u32 ∷
    row 43 (codes "neigh-vlan-suppress") u8 ∷
    row 44 (codes "backup-nhid") u32 ∷
    row 45 (codes "neigh-forward-grat") u8 ∷ []

-- ** vxlans

-- the data of a vxlan
abbrev pub vxlan_rows : List Row
vxlan_rows =
    row 1 (codes "id") u32 ∷
    row 2 (codes "group") ipv4 ∷
    row 3 (codes "link") u32 ∷
    row 4 (codes "local") ipv4 ∷
    row 5 (codes "ttl") u8 ∷
    row 6 (codes "tos") u8 ∷
    row 7 (codes "learning") u8 ∷
    row 8 (codes "ageing") u32 ∷
    row 9 (codes "limit") u32 ∷
    row 10 (codes "port-range") (record_of port_range) ∷
    row 11 (codes "proxy") u8 ∷
    row 12 (codes "rsc") u8 ∷
    row 13 (codes "l2miss") u8 ∷
    row 14 (codes "l3miss") u8 ∷
    row 15 (codes "port") be16 ∷
    row 16 (codes "group6") ipv6 ∷
    row 17 (codes "local6") ipv6 ∷
    row 18 (codes "udp-csum") u8 ∷
    row 19 (codes "udp-zero-csum6-tx") u8 ∷
    row 20 (codes "udp-zero-csum6-rx") u8 ∷
    row 21 (codes "remcsum-tx") u8 ∷
    row 22 (codes "remcsum-rx") u8 ∷
    row 23 (codes "gbp") S.Flag ∷
    row 24 (codes "remcsum-nopartial") S.Flag ∷
    row 25 (codes "collect-metadata") u8 ∷
    row 26 (codes "label") be32 ∷
    row 27 (codes "gpe") S.Flag ∷
    row 28 (codes "ttl-inherit") u8 ∷
    row 29 (codes "df") (S.Plain (named One df)) ∷
    row 30 (codes "vnifilter") u8 ∷
    row 31 (codes "localbypass") u8 ∷
    row 32 (codes "label-policy") (S.Plain (named Four label_policies)) ∷
    row 33 (codes "reserved-bits") be64 ∷ []

-- ** geneve tunnels

-- the data of a geneve tunnel
abbrev pub geneve_rows : List Row
geneve_rows =
    row 1 (codes "id") u32 ∷
    row 2 (codes "remote") ipv4 ∷
    row 3 (codes "ttl") u8 ∷
    row 4 (codes "tos") u8 ∷
    row 5 (codes "port") be16 ∷
    row 6 (codes "collect-metadata") S.Flag ∷
    row 7 (codes "remote6") ipv6 ∷
    row 8 (codes "udp-csum") u8 ∷
    row 9 (codes "udp-zero-csum6-tx") u8 ∷
    row 10 (codes "udp-zero-csum6-rx") u8 ∷
    row 11 (codes "label") be32 ∷
    row 12 (codes "ttl-inherit") u8 ∷
    row 13 (codes "df") (S.Plain (named One df)) ∷
    row 14 (codes "inner-proto-inherit") S.Flag ∷
    row 15 (codes "port-range") (record_of port_range) ∷ []

-- ** GRE and ERSPAN tunnels

-- the data of a GRE tunnel over IPv4
abbrev pub gre_rows : List Row
gre_rows =
    row 1 (codes "link") u32 ∷
    row 2 (codes "iflags") (S.Plain (network_flags Two gre_flags)) ∷
    row 3 (codes "oflags") (S.Plain (network_flags Two gre_flags)) ∷
    row 4 (codes "ikey") be32 ∷
    row 5 (codes "okey") be32 ∷
    row 6 (codes "local") ipv4 ∷
    row 7 (codes "remote") ipv4 ∷
    row 8 (codes "ttl") u8 ∷
    row 9 (codes "tos") u8 ∷
    row 10 (codes "pmtudisc") u8 ∷
    row 11 (codes "encap-limit") u8 ∷
    row 12 (codes "flowinfo") be32 ∷
    row 13 (codes "flags") u32 ∷
    row 14 (codes "encap-type") (S.Plain (named Two encaps)) ∷
    row 15 (codes "encap-flags") (S.Plain (flags Two encap_flags)) ∷
    row 16 (codes "encap-sport") be16 ∷
    row 17 (codes "encap-dport") be16 ∷
    row 18 (codes "collect-metadata") S.Flag ∷
    row 19 (codes "ignore-df") u8 ∷
    row 20 (codes "fwmark") u32 ∷
    row 21 (codes "erspan-index") u32 ∷
    row 22 (codes "erspan-ver") u8 ∷
    row 23 (codes "erspan-dir") u8 ∷
    row 24 (codes "erspan-hwid") u16 ∷ []

-- the data of a GRE tunnel over IPv6
abbrev pub gre6_rows : List Row
gre6_rows =
    row 1 (codes "link") u32 ∷
    row 2 (codes "iflags") (S.Plain (network_flags Two gre_flags)) ∷
    row 3 (codes "oflags") (S.Plain (network_flags Two gre_flags)) ∷
    row 4 (codes "ikey") be32 ∷
    row 5 (codes "okey") be32 ∷
    row 6 (codes "local") ipv6 ∷
    row 7 (codes "remote") ipv6 ∷
    row 8 (codes "ttl") u8 ∷
    row 9 (codes "tos") u8 ∷
    row 10 (codes "pmtudisc") u8 ∷
    row 11 (codes "encap-limit") u8 ∷
    row 12 (codes "flowinfo") be32 ∷
    row 13 (codes "flags") u32 ∷
    row 14 (codes "encap-type") (S.Plain (named Two encaps)) ∷
    row 15 (codes "encap-flags") (S.Plain (flags Two encap_flags)) ∷
    row 16 (codes "encap-sport") be16 ∷
    row 17 (codes "encap-dport") be16 ∷
    row 18 (codes "collect-metadata") S.Flag ∷
    row 19 (codes "ignore-df") u8 ∷
    row 20 (codes "fwmark") u32 ∷
    row 21 (codes "erspan-index") u32 ∷
    row 22 (codes "erspan-ver") u8 ∷
    row 23 (codes "erspan-dir") u8 ∷
    row 24 (codes "erspan-hwid") u16 ∷ []

-- ** IP in IP tunnels

-- the data of an ipip or sit tunnel
abbrev pub ip_tunnel_rows : List Row
ip_tunnel_rows =
    row 1 (codes "link") u32 ∷
    row 2 (codes "local") ipv4 ∷
    row 3 (codes "remote") ipv4 ∷
    row 4 (codes "ttl") u8 ∷
    row 5 (codes "tos") u8 ∷
    row 6 (codes "encap-limit") u8 ∷
    row 7 (codes "flowinfo") be32 ∷
    row 8 (codes "flags") (S.Plain (flags Two sit_flags)) ∷
    row 9 (codes "proto") u8 ∷
    row 10 (codes "pmtudisc") u8 ∷
    row 11 (codes "6rd-prefix") ipv6 ∷
    row 12 (codes "6rd-relay-prefix") ipv4 ∷
    row 13 (codes "6rd-prefixlen") u16 ∷
    row 14 (codes "6rd-relay-prefixlen") u16 ∷
    row 15 (codes "encap-type") (S.Plain (named Two encaps)) ∷
    row 16 (codes "encap-flags") (S.Plain (flags Two encap_flags)) ∷
    row 17 (codes "encap-sport") be16 ∷
    row 18 (codes "encap-dport") be16 ∷
    row 19 (codes "collect-metadata") S.Flag ∷
    row 20 (codes "fwmark") u32 ∷ []

-- the data of an ip6tnl tunnel
abbrev pub ip6_tunnel_rows : List Row
ip6_tunnel_rows =
    row 1 (codes "link") u32 ∷
    row 2 (codes "local") ipv6 ∷
    row 3 (codes "remote") ipv6 ∷
    row 4 (codes "ttl") u8 ∷
    row 5 (codes "tos") u8 ∷
    row 6 (codes "encap-limit") u8 ∷
    row 7 (codes "flowinfo") be32 ∷
    row 8 (codes "flags") u32 ∷
    row 9 (codes "proto") u8 ∷
    row 10 (codes "pmtudisc") u8 ∷
    row 11 (codes "6rd-prefix") ipv6 ∷
    row 12 (codes "6rd-relay-prefix") ipv4 ∷
    row 13 (codes "6rd-prefixlen") u16 ∷
    row 14 (codes "6rd-relay-prefixlen") u16 ∷
    row 15 (codes "encap-type") (S.Plain (named Two encaps)) ∷
    row 16 (codes "encap-flags") (S.Plain (flags Two encap_flags)) ∷
    row 17 (codes "encap-sport") be16 ∷
    row 18 (codes "encap-dport") be16 ∷
    row 19 (codes "collect-metadata") S.Flag ∷
    row 20 (codes "fwmark") u32 ∷ []

-- the data of a vti tunnel
abbrev pub vti_rows : List Row
vti_rows =
    row 1 (codes "link") u32 ∷
    row 2 (codes "ikey") be32 ∷
    row 3 (codes "okey") be32 ∷
    row 4 (codes "local") ipv4 ∷
    row 5 (codes "remote") ipv4 ∷
    row 6 (codes "fwmark") u32 ∷ []

-- the data of a vti6 tunnel
abbrev pub vti6_rows : List Row
vti6_rows =
    row 1 (codes "link") u32 ∷
    row 2 (codes "ikey") be32 ∷
    row 3 (codes "okey") be32 ∷
    row 4 (codes "local") ipv6 ∷
    row 5 (codes "remote") ipv6 ∷
    row 6 (codes "fwmark") u32 ∷ []

-- the data of an xfrm interface (`IFLA_XFRM_*`, linux/if_link.h)
abbrev pub xfrm_rows : List Row
xfrm_rows =
    row 1 (codes "link") u32 ∷
    row 2 (codes "if-id") u32 ∷
    row 3 (codes "collect-metadata") S.Flag ∷ []

-- ** macvlan, macvtap, ipvlan, ipvtap

-- the data of a macvlan or macvtap
abbrev pub macvlan_rows : List Row
macvlan_rows =
    row 1 (codes "mode") (S.Plain (named Four macvlan_modes)) ∷
    row 2 (codes "flags") (S.Plain (flags Two macvlan_flags)) ∷
    row 3 (codes "macaddr-mode") (S.Plain (named Four macaddr_modes)) ∷
    row 4 (codes "macaddr") mac ∷
    row 5 (codes "macaddr-data") (S.Nest Places.MacvlanAddresses) ∷
    row 6 (codes "macaddr-count") u32 ∷
    row 7 (codes "bc-queue-len") u32 ∷
    row 8 (codes "bc-queue-len-used") u32 ∷
    row 9 (codes "bc-cutoff") i32 ∷ []

-- addresses that packets are taken from
abbrev pub macvlan_addresses_rows : List Row
macvlan_addresses_rows = row 4 (codes "macaddr") (S.Each (E.Plain P.Mac)) ∷ []

-- the data of an ipvlan or ipvtap
abbrev pub ipvlan_rows : List Row
ipvlan_rows =
    row 1 (codes "mode") (S.Plain (named Two ipvlan_modes)) ∷
    row 2 (codes "flags") (S.Plain (flags Two ipvlan_flags)) ∷ []

-- ** macsec

-- the data of a macsec interface
abbrev pub macsec_rows : List Row
macsec_rows =
    row 1 (codes "sci") be64 ∷
    row 2 (codes "port") be16 ∷
    row 3 (codes "icv-len") u8 ∷
    row 4 (codes "cipher-suite") u64 ∷
    row 5 (codes "window") u32 ∷
    row 6 (codes "encoding-sa") u8 ∷
    row 7 (codes "encrypt") u8 ∷
    row 8 (codes "protect") u8 ∷
    row 9 (codes "inc-sci") u8 ∷
    row 10 (codes "es") u8 ∷
    row 11 (codes "scb") u8 ∷
    row 12 (codes "replay-protect") u8 ∷
    row 13 (codes "validation") (S.Plain (named One validations)) ∷
    row 15 (codes "offload") (S.Plain (named One offloads)) ∷ []

-- ** CAN

-- the data of a CAN interface
abbrev pub can_rows : List Row
can_rows =
    row 1 (codes "bittiming") (record_of bittiming) ∷
    row 2 (codes "bittiming-const") (record_of bittiming_const) ∷
    row 3 (codes "clock") (record_of can_clock) ∷
    row 4 (codes "state") (S.Plain (named Four can_states)) ∷
    row 5 (codes "ctrlmode") (record_of can_ctrlmode_members) ∷
    row 6 (codes "restart-ms") u32 ∷
    row 7 (codes "restart") u32 ∷
    row 8 (codes "berr-counter") (record_of berr_counter) ∷
    row 9 (codes "data-bittiming") (record_of bittiming) ∷
    row 10 (codes "data-bittiming-const") (record_of bittiming_const) ∷
    row 11 (codes "termination") u16 ∷
    row 12 (codes "termination-const") (S.Array (P.Unsigned Two)) ∷
    row 13 (codes "bitrate-const") (S.Array (P.Unsigned Four)) ∷
    row 14 (codes "data-bitrate-const") (S.Array (P.Unsigned Four)) ∷
    row 15 (codes "bitrate-max") u32 ∷
    row 16 (codes "tdc") (S.Nest Places.CanTdc) ∷
    row 17 (codes "ctrlmode-ext") (S.Nest Places.CanCtrlmode) ∷ []

-- the compensation of delays of a transceiver (`IFLA_CAN_TDC_*`)
abbrev pub can_tdc_rows : List Row
can_tdc_rows =
    row 1 (codes "tdcv-min") u32 ∷
    row 2 (codes "tdcv-max") u32 ∷
    row 3 (codes "tdco-min") u32 ∷
    row 4 (codes "tdco-max") u32 ∷
    row 5 (codes "tdcf-min") u32 ∷
    row 6 (codes "tdcf-max") u32 ∷
    row 7 (codes "tdcv") u32 ∷
    row 8 (codes "tdco") u32 ∷
    row 9 (codes "tdcf") u32 ∷ []

-- modes that a controller knows (`IFLA_CAN_CTRLMODE_*`)
abbrev pub can_ctrlmode_rows : List Row
can_ctrlmode_rows = row 1 (codes "supported") (S.Plain (flags Four can_modes)) ∷ []

-- ** kinds with few attributes

-- the data of a vrf, and of its ports (`IFLA_VRF_TABLE`, linux/if_link.h)
abbrev pub vrf_rows : List Row
vrf_rows = row 1 (codes "table") u32 ∷ []

-- the data of a port of a vrf (`IFLA_VRF_PORT_TABLE`, linux/if_link.h)
abbrev pub vrf_port_rows : List Row
vrf_port_rows = row 1 (codes "table") u32 ∷ []

-- the data of a tun device (`IFLA_TUN_*`, linux/if_link.h)
abbrev pub tun_rows : List Row
tun_rows =
    row 1 (codes "owner") u32 ∷
    row 2 (codes "group") u32 ∷
    row 3 (codes "type") (S.Plain (named One tun_types)) ∷
    row 4 (codes "pi") u8 ∷
    row 5 (codes "vnet-hdr") u8 ∷
    row 6 (codes "persist") u8 ∷
    row 7 (codes "multi-queue") u8 ∷
    row 8 (codes "num-queues") u32 ∷
    row 9 (codes "num-disabled-queues") u32 ∷ []

-- the data of a netkit device (`IFLA_NETKIT_*`, linux/if_link.h)
abbrev pub netkit_rows : List Row
netkit_rows =
    row 1 (codes "peer-info") S.Bytes ∷
    row 2 (codes "primary") u8 ∷
    row 3 (codes "policy") (S.Plain (named Four netkit_policies)) ∷
    row 4 (codes "peer-policy") (S.Plain (named Four netkit_policies)) ∷
    row 5 (codes "mode") (S.Plain (named Four netkit_modes)) ∷
    row 6 (codes "scrub") (S.Plain (named Four netkit_scrubs)) ∷
    row 7 (codes "peer-scrub") (S.Plain (named Four netkit_scrubs)) ∷
    row 8 (codes "headroom") u16 ∷
    row 9 (codes "tailroom") u16 ∷
    row 10 (codes "pairing") (S.Plain (named Four netkit_pairings)) ∷ []

-- the data of an hsr device (`IFLA_HSR_*`, linux/if_link.h)
abbrev pub hsr_rows : List Row
hsr_rows =
    row 1 (codes "slave1") u32 ∷
    row 2 (codes "slave2") u32 ∷
    row 3 (codes "multicast-spec") u8 ∷
    row 4 (codes "supervision-addr") mac ∷
    row 5 (codes "seq-nr") u16 ∷
    row 6 (codes "version") u8 ∷
    row 7 (codes "protocol") (S.Plain (named One hsr_protocols)) ∷
    row 8 (codes "interlink") u32 ∷ []

-- the data of an rmnet device (`IFLA_RMNET_*`, linux/if_link.h)
abbrev pub rmnet_rows : List Row
rmnet_rows = row 1 (codes "mux-id") u16 ∷ row 2 (codes "flags") (record_of rmnet_flags) ∷ []

-- the data of a GTP tunnel (`IFLA_GTP_*`, linux/if_link.h)
abbrev pub gtp_rows : List Row
gtp_rows =
    row 1 (codes "fd0") u32 ∷
    row 2 (codes "fd1") u32 ∷
    row 3 (codes "pdp-hashsize") u32 ∷
    row 4 (codes "role") (S.Plain (named Four gtp_roles)) ∷
    row 5 (codes "create-sockets") u8 ∷
    row 6 (codes "restart-count") u8 ∷
    row 7 (codes "local") ipv4 ∷
    row 8 (codes "local6") ipv6 ∷ []

-- the data of a bareudp tunnel (`IFLA_BAREUDP_*`, linux/if_link.h)
abbrev pub bareudp_rows : List Row
bareudp_rows =
    row 1 (codes "port") be16 ∷
    row 2 (codes "ethertype") be16 ∷
    row 3 (codes "srcport-min") u16 ∷
    row 4 (codes "multiproto-mode") S.Flag ∷ []

-- the data of an AMT tunnel (`IFLA_AMT_*`, linux/amt.h)
abbrev pub amt_rows : List Row
amt_rows =
    row 1 (codes "mode") (S.Plain (named Four amt_modes)) ∷
    row 2 (codes "relay-port") be16 ∷
    row 3 (codes "gateway-port") be16 ∷
    row 4 (codes "link") u32 ∷
    row 5 (codes "local-ip") ipv4 ∷
    row 6 (codes "remote-ip") ipv4 ∷
    row 7 (codes "discovery-ip") ipv4 ∷
    row 8 (codes "max-tunnels") u32 ∷ []

-- the data of a wwan device (`IFLA_WWAN_*`, linux/wwan.h)
abbrev pub wwan_rows : List Row
wwan_rows = row 1 (codes "link-id") u32 ∷ []

-- the data of an ovpn device (`IFLA_OVPN_*`, linux/if_link.h)
abbrev pub ovpn_rows : List Row
ovpn_rows = row 1 (codes "mode") (S.Plain (named One ovpn_modes)) ∷ []

-- the data of an end of a veth pair (`VETH_INFO_*`, linux/veth.h): the message of the other end
abbrev pub veth_rows : List Row
veth_rows = row 1 (codes "peer") S.Bytes ∷ []

-- the data of an end of a vxcan pair (`VXCAN_INFO_*`, linux/can/vxcan.h): the message of the other end
abbrev pub vxcan_rows : List Row
vxcan_rows = row 1 (codes "peer") S.Bytes ∷ []

-- the data of a ppp interface (`IFLA_PPP_*`, linux/if_link.h). Kernels send none of it
abbrev pub ppp_rows : List Row
ppp_rows = row 1 (codes "dev-fd") i32 ∷ []

-- ** by address family, and ports

-- the members of `IFLA_AF_SPEC` under AF_BRIDGE (`IFLA_BRIDGE_*`, linux/if_bridge.h)
abbrev pub bridge_spec_rows : List Row
bridge_spec_rows =
    row 0 (codes "flags") (S.Plain (flags Two bridge_flags)) ∷
    row 1 (codes "mode") (S.Plain (named Two bridge_modes)) ∷
    row 2 (codes "vlan-info") (each_record_of vlan_info) ∷
    row 3 (codes "vlan-tunnel-info") (each_nest Places.BridgeVlanTunnel) ∷
    row 6 (codes "mst") (S.Nest Places.BridgeMst) ∷ []

-- a vlan that is a tunnel (`IFLA_BRIDGE_VLAN_TUNNEL_*`, linux/if_bridge.h)
abbrev pub bridge_vlan_tunnel_rows : List Row
bridge_vlan_tunnel_rows =
    row 1 (codes "id") u32 ∷
    row 2 (codes "vid") u16 ∷
    row 3 (codes "flags") (S.Plain (flags Two bridge_vlan_flags)) ∷ []

-- spanning trees of a port (`IFLA_BRIDGE_MST_*`, linux/if_bridge.h)
abbrev pub bridge_mst_rows : List Row
bridge_mst_rows = row 1 (codes "entry") (each_nest Places.BridgeMstEntry) ∷ []

-- a spanning tree of a port (`IFLA_BRIDGE_MST_ENTRY_*`, linux/if_bridge.h)
abbrev pub bridge_mst_entry_rows : List Row
bridge_mst_entry_rows =
    row 1 (codes "msti") u16 ∷
    row 2 (codes "state") (S.Plain (named One port_states)) ∷ []

-- the members of AF_INET6 in `IFLA_AF_SPEC`, and of `IFLA_PROTINFO` under AF_INET6 (`IFLA_INET6_*`, linux/if_link.h)
abbrev pub inet6_rows : List Row
inet6_rows =
    row 1 (codes "flags") (S.Plain (flags Four inet6_flags)) ∷
    row 2 (codes "conf") (S.Array (P.Signed Four)) ∷
    row 3 (codes "stats") (S.Array (P.Unsigned Eight)) ∷
    row 4 (codes "mcast") S.Bytes ∷
    row 5 (codes "cacheinfo") (record_of cacheinfo) ∷
    row 6 (codes "icmp6-stats") (S.Array (P.Unsigned Eight)) ∷
    row 7 (codes "token") ipv6 ∷
    row 8 (codes "addr-gen-mode") (S.Plain (named One addr_gen_modes)) ∷
    row 9 (codes "ra-mtu") u32 ∷ []

-- the port of a function (`IFLA_PORT_*`, linux/if_link.h). The header says one byte of `IFLA_PORT_REQUEST`, drivers
-- send two
abbrev pub port_rows : List Row
port_rows =
    row 1 (codes "vf") u32 ∷
    row 2 (codes "profile") S.Text ∷
    row 3 (codes "vsi-type") S.Bytes ∷
    row 4 (codes "instance-uuid") S.Bytes ∷
    row 5 (codes "host-uuid") S.Bytes ∷
    row 6 (codes "request") (S.Plain (named Two port_requests)) ∷
    row 7 (codes "response") u16 ∷ []

-- ** all of them

-- the rows of a place
abbrev pub own_rows : Place → List Row
own_rows Places.Vlan = vlan_rows
own_rows Places.VlanQos = vlan_qos_rows
own_rows Places.Bond = bond_rows
own_rows Places.BondAdInfo = bond_ad_info_rows
own_rows Places.BondSlave = bond_slave_rows
own_rows Places.Bridge = bridge_rows
own_rows Places.BridgeQuerier = bridge_querier_rows
own_rows Places.BridgePort = bridge_port_rows
own_rows Places.Vxlan = vxlan_rows
own_rows Places.Geneve = geneve_rows
own_rows Places.Gre = gre_rows
own_rows Places.Gre6 = gre6_rows
own_rows Places.IpTunnel = ip_tunnel_rows
own_rows Places.Ip6Tunnel = ip6_tunnel_rows
own_rows Places.Vti = vti_rows
own_rows Places.Vti6 = vti6_rows
own_rows Places.Xfrm = xfrm_rows
own_rows Places.Macvlan = macvlan_rows
own_rows Places.MacvlanAddresses = macvlan_addresses_rows
own_rows Places.Ipvlan = ipvlan_rows
own_rows Places.Macsec = macsec_rows
own_rows Places.Can = can_rows
own_rows Places.CanTdc = can_tdc_rows
own_rows Places.CanCtrlmode = can_ctrlmode_rows
own_rows Places.Vrf = vrf_rows
own_rows Places.VrfPort = vrf_port_rows
own_rows Places.Tun = tun_rows
own_rows Places.Netkit = netkit_rows
own_rows Places.Hsr = hsr_rows
own_rows Places.Rmnet = rmnet_rows
own_rows Places.Gtp = gtp_rows
own_rows Places.Bareudp = bareudp_rows
own_rows Places.Amt = amt_rows
own_rows Places.Wwan = wwan_rows
own_rows Places.Ovpn = ovpn_rows
own_rows Places.Veth = veth_rows
own_rows Places.Vxcan = vxcan_rows
own_rows Places.Ppp = ppp_rows
own_rows Places.BridgeSpec = bridge_spec_rows
own_rows Places.BridgeVlanTunnel = bridge_vlan_tunnel_rows
own_rows Places.BridgeMst = bridge_mst_rows
own_rows Places.BridgeMstEntry = bridge_mst_entry_rows
own_rows Places.Inet6 = inet6_rows
own_rows Places.Port = port_rows

-- the rows of data, where their kind has a place
abbrev pub rows_at : Option Place → List Row
rows_at None = []
rows_at (Some place) = own_rows place

-- a table of all places has at each place its rows
abbrev pub AreAllRows : List (Bor (List Row)) → Type 0
AreAllRows tables = (place : Place) → map row_now (rows_of tables place) ≡ own_rows place
