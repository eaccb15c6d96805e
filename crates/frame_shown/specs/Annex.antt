-- The tables as they stand: names, numbers, places and forms, an annex that is to be compared with rt_link.yaml and the
-- kernel's headers.
use Rattle.std.specs.Prelude.{ℕ, ◌==◌, List, [], ◌∷◌, ◌++◌, codes, cond, map}
use Rattle.shown.specs.Values.{BitNames}
use Rattle.link_info.specs.declared.place.Place.TheVariants as Places
use Rattle.link_info.specs.declared.style.Size.TheVariants as Sizes
use Rattle.frame_shown.specs.declared.form.Bits.TheVariants as Masks
use Rattle.frame_shown.specs.declared.form.Choice.TheVariants as Choices
use Rattle.frame_shown.specs.declared.form.Field.{Field}
use Rattle.frame_shown.specs.declared.form.Field.TheVariants as Kinds
use Rattle.frame_shown.specs.declared.form.Form.{Form}
use Rattle.frame_shown.specs.declared.form.Form.TheVariants as Forms
use Rattle.frame_shown.specs.declared.form.Group.TheVariants as Groups
use Rattle.frame_shown.specs.declared.form.List.TheVariants as Shapes
use Rattle.frame_shown.specs.declared.form.Record.TheVariants as Records
use Rattle.frame_shown.specs.declared.form.Settings.TheVariants as Sets
use Rattle.frame_shown.specs.declared.form.Table.TheVariants as Tables
use Rattle.frame_shown.specs.declared.form.Words.TheVariants as Counts
use Rattle.frame_shown.specs.Tables.{Rows}

-- the operational states
abbrev pub operstates : List (List ℕ)
operstates =
    codes "unknown" ∷
    codes "notpresent" ∷
    codes "down" ∷
    codes "lowerlayerdown" ∷
    codes "testing" ∷
    codes "dormant" ∷
    codes "up" ∷
    []

-- the modes of a link
abbrev pub link_modes : List (List ℕ)
link_modes =
    codes "default" ∷
    codes "dormant" ∷
    codes "testing" ∷
    []

-- the bits of IFLA_EXT_MASK
abbrev pub ext_mask : BitNames
ext_mask =
    (0x01, codes "vf") ∷
    (0x02, codes "brvlan") ∷
    (0x04, codes "brvlan-compressed") ∷
    (0x08, codes "skip-stats") ∷
    (0x10, codes "mrp") ∷
    (0x20, codes "cfm-config") ∷
    (0x40, codes "cfm-status") ∷
    (0x80, codes "mst") ∷
    []

-- the flags of a link
abbrev pub link_flags : BitNames
link_flags =
    (1, codes "up") ∷
    (2, codes "broadcast") ∷
    (4, codes "debug") ∷
    (8, codes "loopback") ∷
    (16, codes "point-to-point") ∷
    (32, codes "no-trailers") ∷
    (64, codes "running") ∷
    (128, codes "no-arp") ∷
    (256, codes "promisc") ∷
    (512, codes "all-multi") ∷
    (0x400, codes "master") ∷
    (0x800, codes "slave") ∷
    (0x1000, codes "multicast") ∷
    (0x2000, codes "portsel") ∷
    (0x4000, codes "auto-media") ∷
    (0x8000, codes "dynamic") ∷
    (0x10000, codes "lower-up") ∷
    (0x20000, codes "dormant") ∷
    (0x40000, codes "echo") ∷
    []

-- the counters of a link
abbrev pub stats : List (List ℕ)
stats =
    codes "rx-packets" ∷
    codes "tx-packets" ∷
    codes "rx-bytes" ∷
    codes "tx-bytes" ∷
    codes "rx-errors" ∷
    codes "tx-errors" ∷
    codes "rx-dropped" ∷
    codes "tx-dropped" ∷
    codes "multicast" ∷
    codes "collisions" ∷
    codes "rx-length-errors" ∷
    codes "rx-over-errors" ∷
    codes "rx-crc-errors" ∷
    codes "rx-frame-errors" ∷
    codes "rx-fifo-errors" ∷
    codes "rx-missed-errors" ∷
    codes "tx-aborted-errors" ∷
    codes "tx-carrier-errors" ∷
    codes "tx-fifo-errors" ∷
    codes "tx-heartbeat-errors" ∷
    codes "tx-window-errors" ∷
    codes "rx-compressed" ∷
    codes "tx-compressed" ∷
    codes "rx-nohandler" ∷
    codes "rx-otherhost-dropped" ∷
    []

-- struct rtnl_link_ifmap
abbrev pub ifmap : List (List ℕ × (ℕ × Field))
ifmap =
    (codes "mem-start", (0, Kinds.Number Sizes.Eight)) ∷
    (codes "mem-end", (8, Kinds.Number Sizes.Eight)) ∷
    (codes "base-addr", (16, Kinds.Number Sizes.Eight)) ∷
    (codes "irq", (24, Kinds.Number Sizes.Two)) ∷
    (codes "dma", (26, Kinds.Number Sizes.One)) ∷
    (codes "port", (27, Kinds.Number Sizes.One)) ∷
    []

-- a function and its address
abbrev pub vf_mac : List (List ℕ × (ℕ × Field))
vf_mac =
    (codes "vf", (0, Kinds.Number Sizes.Four)) ∷
    (codes "mac", (4, Kinds.Address)) ∷
    []

-- a function and its vlan
abbrev pub vf_vlan : List (List ℕ × (ℕ × Field))
vf_vlan =
    (codes "vf", (0, Kinds.Number Sizes.Four)) ∷
    (codes "vlan", (4, Kinds.Number Sizes.Four)) ∷
    (codes "qos", (8, Kinds.Number Sizes.Four)) ∷
    []

-- a function and its rate
abbrev pub vf_tx_rate : List (List ℕ × (ℕ × Field))
vf_tx_rate =
    (codes "vf", (0, Kinds.Number Sizes.Four)) ∷
    (codes "rate", (4, Kinds.Number Sizes.Four)) ∷
    []

-- a function and a setting of it
abbrev pub vf_setting : List (List ℕ × (ℕ × Field))
vf_setting =
    (codes "vf", (0, Kinds.Number Sizes.Four)) ∷
    (codes "setting", (4, Kinds.Setting)) ∷
    []

-- a function and the state of its link
abbrev pub vf_link_state : List (List ℕ × (ℕ × Field))
vf_link_state =
    (codes "vf", (0, Kinds.Number Sizes.Four)) ∷
    (codes "link-state", (4, Kinds.LinkState)) ∷
    []

-- a function and its rates
abbrev pub vf_rate : List (List ℕ × (ℕ × Field))
vf_rate =
    (codes "vf", (0, Kinds.Number Sizes.Four)) ∷
    (codes "min-tx-rate", (4, Kinds.Number Sizes.Four)) ∷
    (codes "max-tx-rate", (8, Kinds.Number Sizes.Four)) ∷
    []

-- a function and a number for it, behind four bytes that say nothing
abbrev pub vf_guid : List (List ℕ × (ℕ × Field))
vf_guid =
    (codes "vf", (0, Kinds.Number Sizes.Four)) ∷
    (codes "guid", (8, Kinds.Number Sizes.Eight)) ∷
    []

-- a function and a vlan with its protocol
abbrev pub vf_vlan_info : List (List ℕ × (ℕ × Field))
vf_vlan_info =
    (codes "vf", (0, Kinds.Number Sizes.Four)) ∷
    (codes "vlan", (4, Kinds.Number Sizes.Four)) ∷
    (codes "qos", (8, Kinds.Number Sizes.Four)) ∷
    (codes "vlan-proto", (12, Kinds.Protocol)) ∷
    []

-- the kernel's name of an attribute, in small letters
abbrev pub underlined : ℕ → ℕ
underlined letter = cond (letter == 45) 95 letter

abbrev pub kernel_name : List ℕ → List ℕ
kernel_name name = codes "ifla_" ++ map underlined name

-- the attributes of a link, each at the place of its number
abbrev pub message : List (List ℕ × Form)
message =
    (codes "", Forms.Kept) ∷
    (codes "address", Forms.Address) ∷
    (codes "broadcast", Forms.Address) ∷
    (codes "ifname", Forms.Text) ∷
    (codes "mtu", Forms.Number Sizes.Four) ∷
    (codes "link", Forms.Number Sizes.Four) ∷
    (codes "qdisc", Forms.Text) ∷
    (codes "stats", Forms.Counters Counts.Stats) ∷
    (codes "cost", Forms.Kept) ∷
    (codes "priority", Forms.Kept) ∷
    (codes "master", Forms.Number Sizes.Four) ∷
    (codes "wireless", Forms.Wireless) ∷
    (codes "protinfo", Forms.Kept) ∷
    (codes "txqlen", Forms.Number Sizes.Four) ∷
    (codes "map", Forms.Record Records.Map) ∷
    (codes "weight", Forms.Kept) ∷
    (codes "operstate", Forms.Choice Choices.OperState) ∷
    (codes "linkmode", Forms.Choice Choices.LinkMode) ∷
    (codes "linkinfo", Forms.Info) ∷
    (codes "net-ns-pid", Forms.Number Sizes.Four) ∷
    (codes "ifalias", Forms.Text) ∷
    (codes "num-vf", Forms.Number Sizes.Four) ∷
    (codes "vfinfo-list", Forms.List (Shapes.Entries Groups.Info)) ∷
    (codes "stats64", Forms.Counters Counts.Stats64) ∷
    (codes "vf-ports", Forms.List (Shapes.Entries Groups.Port)) ∷
    (codes "port-self", Forms.List (Shapes.Of Places.Port)) ∷
    (codes "af-spec", Forms.Kept) ∷
    (codes "group", Forms.Number Sizes.Four) ∷
    (codes "net-ns-fd", Forms.Signed) ∷
    (codes "ext-mask", Forms.Flags Masks.ExtMask) ∷
    (codes "promiscuity", Forms.Number Sizes.Four) ∷
    (codes "num-tx-queues", Forms.Number Sizes.Four) ∷
    (codes "num-rx-queues", Forms.Number Sizes.Four) ∷
    (codes "carrier", Forms.Number Sizes.One) ∷
    (codes "phys-port-id", Forms.Id) ∷
    (codes "carrier-changes", Forms.Number Sizes.Four) ∷
    (codes "phys-switch-id", Forms.Id) ∷
    (codes "link-netnsid", Forms.Signed) ∷
    (codes "phys-port-name", Forms.Text) ∷
    (codes "proto-down", Forms.Number Sizes.One) ∷
    (codes "gso-max-segs", Forms.Number Sizes.Four) ∷
    (codes "gso-max-size", Forms.Number Sizes.Four) ∷
    (codes "pad", Forms.Kept) ∷
    (codes "xdp", Forms.List (Shapes.Own Tables.Xdp)) ∷
    (codes "event", Forms.Choice Choices.Event) ∷
    (codes "new-netnsid", Forms.Signed) ∷
    (codes "target-netnsid", Forms.Signed) ∷
    (codes "carrier-up-count", Forms.Number Sizes.Four) ∷
    (codes "carrier-down-count", Forms.Number Sizes.Four) ∷
    (codes "new-ifindex", Forms.Signed) ∷
    (codes "min-mtu", Forms.Number Sizes.Four) ∷
    (codes "max-mtu", Forms.Number Sizes.Four) ∷
    (codes "prop-list", Forms.List (Shapes.Listed Groups.AltIfname Tables.Props)) ∷
    (codes "alt-ifname", Forms.Kept) ∷
    (codes "perm-address", Forms.Address) ∷
    (codes "proto-down-reason", Forms.List (Shapes.Own Tables.DownReason)) ∷
    (codes "parent-dev-name", Forms.Text) ∷
    (codes "parent-dev-bus-name", Forms.Text) ∷
    (codes "gro-max-size", Forms.Number Sizes.Four) ∷
    (codes "tso-max-size", Forms.Number Sizes.Four) ∷
    (codes "tso-max-segs", Forms.Number Sizes.Four) ∷
    (codes "allmulti", Forms.Number Sizes.Four) ∷
    (codes "devlink-port", Forms.List (Shapes.Own Tables.DevlinkPort)) ∷
    (codes "gso-ipv4-max-size", Forms.Number Sizes.Four) ∷
    (codes "gro-ipv4-max-size", Forms.Number Sizes.Four) ∷
    (codes "dpll-pin", Forms.List (Shapes.Own Tables.DpllPin)) ∷
    (codes "max-pacing-offload-horizon", Forms.Kept) ∷
    (codes "netns-immutable", Forms.Truth) ∷
    (codes "headroom", Forms.Exact Sizes.Two) ∷
    (codes "tailroom", Forms.Exact Sizes.Two) ∷
    []

-- the members of IFLA_PROP_LIST
abbrev pub props : Rows
props =
    (53, (codes "alt-ifname", Forms.Text)) ∷
    []

-- the members of IFLA_DEVLINK_PORT, and behind the third what else linux/devlink.h has of a port
abbrev pub devlink_port : Rows
devlink_port =
    (1, (codes "bus-name", Forms.Text)) ∷
    (2, (codes "dev-name", Forms.Text)) ∷
    (3, (codes "port-index", Forms.Number Sizes.Four)) ∷
    (4, (codes "port-type", Forms.Kept)) ∷
    (5, (codes "port-desired-type", Forms.Kept)) ∷
    (6, (codes "port-netdev-ifindex", Forms.Kept)) ∷
    (7, (codes "port-netdev-name", Forms.Kept)) ∷
    (8, (codes "port-ibdev-name", Forms.Kept)) ∷
    (9, (codes "port-split-count", Forms.Kept)) ∷
    (10, (codes "port-split-group", Forms.Kept)) ∷
    (77, (codes "port-flavour", Forms.Kept)) ∷
    (78, (codes "port-number", Forms.Kept)) ∷
    (79, (codes "port-split-subport-number", Forms.Kept)) ∷
    (127, (codes "port-pci-pf-number", Forms.Kept)) ∷
    (128, (codes "port-pci-vf-number", Forms.Kept)) ∷
    (145, (codes "port-function", Forms.Kept)) ∷
    (147, (codes "port-lanes", Forms.Kept)) ∷
    (148, (codes "port-splittable", Forms.Kept)) ∷
    (149, (codes "port-external", Forms.Kept)) ∷
    (150, (codes "port-controller-number", Forms.Kept)) ∷
    (164, (codes "port-pci-sf-number", Forms.Kept)) ∷
    []

-- the members of IFLA_DPLL_PIN, and behind the first what else linux/dpll.h has of a pin
abbrev pub dpll_pin : Rows
dpll_pin =
    (1, (codes "id", Forms.Number Sizes.Four)) ∷
    (2, (codes "parent-id", Forms.Kept)) ∷
    (3, (codes "module-name", Forms.Kept)) ∷
    (4, (codes "pad", Forms.Kept)) ∷
    (5, (codes "clock-id", Forms.Kept)) ∷
    (6, (codes "board-label", Forms.Kept)) ∷
    (7, (codes "panel-label", Forms.Kept)) ∷
    (8, (codes "package-label", Forms.Kept)) ∷
    (9, (codes "type", Forms.Kept)) ∷
    (10, (codes "direction", Forms.Kept)) ∷
    (11, (codes "frequency", Forms.Kept)) ∷
    (12, (codes "frequency-supported", Forms.Kept)) ∷
    (13, (codes "frequency-min", Forms.Kept)) ∷
    (14, (codes "frequency-max", Forms.Kept)) ∷
    (15, (codes "prio", Forms.Kept)) ∷
    (16, (codes "state", Forms.Kept)) ∷
    (17, (codes "capabilities", Forms.Kept)) ∷
    (18, (codes "parent-device", Forms.Kept)) ∷
    (19, (codes "parent-pin", Forms.Kept)) ∷
    (20, (codes "phase-adjust-min", Forms.Kept)) ∷
    (21, (codes "phase-adjust-max", Forms.Kept)) ∷
    (22, (codes "phase-adjust", Forms.Kept)) ∷
    (23, (codes "phase-offset", Forms.Kept)) ∷
    (24, (codes "fractional-frequency-offset", Forms.Kept)) ∷
    (25, (codes "esync-frequency", Forms.Kept)) ∷
    (26, (codes "esync-frequency-supported", Forms.Kept)) ∷
    (27, (codes "esync-pulse", Forms.Kept)) ∷
    (28, (codes "reference-sync", Forms.Kept)) ∷
    []

-- the members of IFLA_PROTO_DOWN_REASON
abbrev pub down_reason : Rows
down_reason =
    (1, (codes "mask", Forms.Number Sizes.Four)) ∷
    (2, (codes "value", Forms.Number Sizes.Four)) ∷
    []

-- the members of IFLA_VF_INFO
abbrev pub function : Rows
function =
    (1, (codes "mac", Forms.Record Records.VfMac)) ∷
    (2, (codes "vlan", Forms.Record Records.VfVlan)) ∷
    (3, (codes "tx-rate", Forms.Record Records.VfTxRate)) ∷
    (4, (codes "spoofchk", Forms.Record Records.VfSetting)) ∷
    (5, (codes "link-state", Forms.Record Records.VfLinkState)) ∷
    (6, (codes "rate", Forms.Record Records.VfRate)) ∷
    (7, (codes "rss-query-en", Forms.Record Records.VfSetting)) ∷
    (8, (codes "stats", Forms.List (Shapes.Own Tables.FunctionStats))) ∷
    (9, (codes "trust", Forms.Record Records.VfSetting)) ∷
    (10, (codes "ib-node-guid", Forms.Record Records.VfGuid)) ∷
    (11, (codes "ib-port-guid", Forms.Record Records.VfGuid)) ∷
    (12, (codes "vlan-list", Forms.List (Shapes.Listed Groups.Info Tables.FunctionVlans))) ∷
    (13, (codes "broadcast", Forms.Field Kinds.Address)) ∷
    []

-- the members of IFLA_VF_STATS
abbrev pub function_stats : Rows
function_stats =
    (0, (codes "rx-packets", Forms.Number Sizes.Eight)) ∷
    (1, (codes "tx-packets", Forms.Number Sizes.Eight)) ∷
    (2, (codes "rx-bytes", Forms.Number Sizes.Eight)) ∷
    (3, (codes "tx-bytes", Forms.Number Sizes.Eight)) ∷
    (4, (codes "broadcast", Forms.Number Sizes.Eight)) ∷
    (5, (codes "multicast", Forms.Number Sizes.Eight)) ∷
    (6, (codes "pad", Forms.Kept)) ∷
    (7, (codes "rx-dropped", Forms.Number Sizes.Eight)) ∷
    (8, (codes "tx-dropped", Forms.Number Sizes.Eight)) ∷
    []

-- the members of IFLA_VF_VLAN_LIST
abbrev pub function_vlans : Rows
function_vlans =
    (1, (codes "info", Forms.Record Records.VfVlanInfo)) ∷
    []

-- the families in IFLA_AF_SPEC
abbrev pub families : Rows
families =
    (2, (codes "inet", Forms.List (Shapes.Own Tables.Inet))) ∷
    (10, (codes "inet6", Forms.List (Shapes.Own Tables.Inet6))) ∷
    (45, (codes "mctp", Forms.List (Shapes.Own Tables.Mctp))) ∷
    []

-- the settings of IPv4
abbrev pub inet : Rows
inet =
    (1, (codes "conf", Forms.Settings Sets.Inet)) ∷
    []

-- the settings of IPv6
abbrev pub inet6 : Rows
inet6 =
    (1, (codes "flags", Forms.Flags Masks.Inet6)) ∷
    (2, (codes "conf", Forms.Settings Sets.Inet6)) ∷
    (3, (codes "stats", Forms.Ipv6Counters)) ∷
    (4, (codes "mcast", Forms.Kept)) ∷
    (5, (codes "cacheinfo", Forms.Settings Sets.Cache)) ∷
    (6, (codes "icmp6-stats", Forms.Counters Counts.Icmp6)) ∷
    (7, (codes "token", Forms.Ipv6)) ∷
    (8, (codes "addr-gen-mode", Forms.Choice Choices.GenMode)) ∷
    (9, (codes "ra-mtu", Forms.Number Sizes.Four)) ∷
    []

-- the settings of MCTP
abbrev pub mctp : Rows
mctp =
    (1, (codes "net", Forms.Number Sizes.Four)) ∷
    (2, (codes "phys-binding", Forms.Choice Choices.Binding)) ∷
    []

-- the members of IFLA_XDP
abbrev pub xdp : Rows
xdp =
    (1, (codes "fd", Forms.Signed)) ∷
    (2, (codes "attached", Forms.Choice Choices.Attached)) ∷
    (3, (codes "flags", Forms.Number Sizes.Four)) ∷
    (4, (codes "prog-id", Forms.Number Sizes.Four)) ∷
    (5, (codes "drv-prog-id", Forms.Number Sizes.Four)) ∷
    (6, (codes "skb-prog-id", Forms.Number Sizes.Four)) ∷
    (7, (codes "hw-prog-id", Forms.Number Sizes.Four)) ∷
    (8, (codes "expected-fd", Forms.Number Sizes.Four)) ∷
    []

-- the counters of IPv6, after how many there are: the place of each up to Linux 6.12, and since Linux 6.16
abbrev pub inet6_stats : List (List ℕ × (ℕ × ℕ))
inet6_stats =
    (codes "num", (0, 0)) ∷
    (codes "inpkts", (1, 1)) ∷
    (codes "inoctets", (2, 2)) ∷
    (codes "indelivers", (3, 3)) ∷
    (codes "outforwdatagrams", (4, 11)) ∷
    (codes "outpkts", (5, 8)) ∷
    (codes "outoctets", (6, 10)) ∷
    (codes "inhdrerrors", (7, 12)) ∷
    (codes "intoobigerrors", (8, 13)) ∷
    (codes "innoroutes", (9, 14)) ∷
    (codes "inaddrerrors", (10, 15)) ∷
    (codes "inunknownprotos", (11, 16)) ∷
    (codes "intruncatedpkts", (12, 17)) ∷
    (codes "indiscards", (13, 18)) ∷
    (codes "outdiscards", (14, 19)) ∷
    (codes "outnoroutes", (15, 20)) ∷
    (codes "reasmtimeout", (16, 21)) ∷
    (codes "reasmreqds", (17, 22)) ∷
    (codes "reasmoks", (18, 23)) ∷
    (codes "reasmfails", (19, 24)) ∷
    (codes "fragoks", (20, 25)) ∷
    (codes "fragfails", (21, 26)) ∷
    (codes "fragcreates", (22, 27)) ∷
    (codes "inmcastpkts", (23, 28)) ∷
    (codes "outmcastpkts", (24, 29)) ∷
    (codes "inbcastpkts", (25, 30)) ∷
    (codes "outbcastpkts", (26, 31)) ∷
    (codes "inmcastoctets", (27, 32)) ∷
    (codes "outmcastoctets", (28, 33)) ∷
    (codes "inbcastoctets", (29, 34)) ∷
    (codes "outbcastoctets", (30, 35)) ∷
    (codes "csumerrors", (31, 36)) ∷
    (codes "noectpkts", (32, 4)) ∷
    (codes "ect1-pkts", (33, 5)) ∷
    (codes "ect0-pkts", (34, 6)) ∷
    (codes "cepkts", (35, 7)) ∷
    (codes "reasm-overlaps", (36, 37)) ∷
    (codes "outtransmits", (37, 9)) ∷
    []

-- the physical bindings of MCTP, by their numbers; 0 has no name
abbrev pub mctp_bindings : List (List ℕ)
mctp_bindings =
    codes "" ∷
    codes "smbus" ∷
    codes "pcie-vdm" ∷
    codes "usb" ∷
    codes "kcs" ∷
    codes "serial" ∷
    codes "i3c" ∷
    codes "mmbi" ∷
    codes "pcc" ∷
    codes "ucie" ∷
    []

-- the states of a function's link, by their numbers
abbrev pub vf_link_states : List (List ℕ)
vf_link_states =
    codes "auto" ∷
    codes "enable" ∷
    codes "disable" ∷
    []

-- the counters of ICMPv6, after how many there are
abbrev pub icmp6_stats : List (List ℕ)
icmp6_stats =
    codes "num" ∷
    codes "inmsgs" ∷
    codes "inerrors" ∷
    codes "outmsgs" ∷
    codes "outerrors" ∷
    codes "csumerrors" ∷
    codes "ratelimithost" ∷
    []

-- the settings of IPv4
abbrev pub inet_conf : List (List ℕ)
inet_conf =
    codes "forwarding" ∷
    codes "mc-forwarding" ∷
    codes "proxy-arp" ∷
    codes "accept-redirects" ∷
    codes "secure-redirects" ∷
    codes "send-redirects" ∷
    codes "shared-media" ∷
    codes "rp-filter" ∷
    codes "accept-source-route" ∷
    codes "bootp-relay" ∷
    codes "log-martians" ∷
    codes "tag" ∷
    codes "arpfilter" ∷
    codes "medium-id" ∷
    codes "noxfrm" ∷
    codes "nopolicy" ∷
    codes "force-igmp-version" ∷
    codes "arp-announce" ∷
    codes "arp-ignore" ∷
    codes "promote-secondaries" ∷
    codes "arp-accept" ∷
    codes "arp-notify" ∷
    codes "accept-local" ∷
    codes "src-vmark" ∷
    codes "proxy-arp-pvlan" ∷
    codes "route-localnet" ∷
    codes "igmpv2-unsolicited-report-interval" ∷
    codes "igmpv3-unsolicited-report-interval" ∷
    codes "ignore-routes-with-linkdown" ∷
    codes "drop-unicast-in-l2-multicast" ∷
    codes "drop-gratuitous-arp" ∷
    codes "bc-forwarding" ∷
    codes "arp-evict-nocarrier" ∷
    []

-- the settings of IPv6
abbrev pub inet6_conf : List (List ℕ)
inet6_conf =
    codes "forwarding" ∷
    codes "hoplimit" ∷
    codes "mtu6" ∷
    codes "accept-ra" ∷
    codes "accept-redirects" ∷
    codes "autoconf" ∷
    codes "dad-transmits" ∷
    codes "rtr-solicits" ∷
    codes "rtr-solicit-interval" ∷
    codes "rtr-solicit-delay" ∷
    codes "use-tempaddr" ∷
    codes "temp-valid-lft" ∷
    codes "temp-prefered-lft" ∷
    codes "regen-max-retry" ∷
    codes "max-desync-factor" ∷
    codes "max-addresses" ∷
    codes "force-mld-version" ∷
    codes "accept-ra-defrtr" ∷
    codes "accept-ra-pinfo" ∷
    codes "accept-ra-rtr-pref" ∷
    codes "rtr-probe-interval" ∷
    codes "accept-ra-rt-info-max-plen" ∷
    codes "proxy-ndp" ∷
    codes "optimistic-dad" ∷
    codes "accept-source-route" ∷
    codes "mc-forwarding" ∷
    codes "disable-ipv6" ∷
    codes "accept-dad" ∷
    codes "force-tllao" ∷
    codes "ndisc-notify" ∷
    codes "mldv1-unsolicited-report-interval" ∷
    codes "mldv2-unsolicited-report-interval" ∷
    codes "suppress-frag-ndisc" ∷
    codes "accept-ra-from-local" ∷
    codes "use-optimistic" ∷
    codes "accept-ra-mtu" ∷
    codes "stable-secret" ∷
    codes "use-oif-addrs-only" ∷
    codes "accept-ra-min-hop-limit" ∷
    codes "ignore-routes-with-linkdown" ∷
    codes "drop-unicast-in-l2-multicast" ∷
    codes "drop-unsolicited-na" ∷
    codes "keep-addr-on-down" ∷
    codes "rtr-solicit-max-interval" ∷
    codes "seg6-enabled" ∷
    codes "seg6-require-hmac" ∷
    codes "enhanced-dad" ∷
    codes "addr-gen-mode" ∷
    codes "disable-policy" ∷
    codes "accept-ra-rt-info-min-plen" ∷
    codes "ndisc-tclass" ∷
    codes "rpl-seg-enabled" ∷
    codes "ra-defrtr-metric" ∷
    codes "ioam6-enabled" ∷
    codes "ioam6-id" ∷
    codes "ioam6-id-wide" ∷
    codes "ndisc-evict-nocarrier" ∷
    codes "accept-untracked-na" ∷
    codes "accept-ra-min-lft" ∷
    codes "force-forwarding" ∷
    []

-- the times of the neighbour cache
abbrev pub cache_info : List (List ℕ)
cache_info =
    codes "max-reasm-len" ∷
    codes "tstamp" ∷
    codes "reachable-time" ∷
    codes "retrans-time" ∷
    []

-- the flags of an interface of IPv6
abbrev pub inet6_flags : BitNames
inet6_flags =
    (0x80, codes "ra-otherconf") ∷
    (0x40, codes "ra-managed") ∷
    (0x20, codes "ra-rcvd") ∷
    (0x10, codes "rs-sent") ∷
    (0x80000000, codes "ready") ∷
    []

-- how addresses are made, by the numbers
abbrev pub addr_gen_modes : List (List ℕ)
addr_gen_modes =
    codes "eui64" ∷
    codes "none" ∷
    codes "stable-privacy" ∷
    codes "random" ∷
    []

-- where a program is attached, by the numbers
abbrev pub xdp_attached : List (List ℕ)
xdp_attached =
    codes "none" ∷
    codes "drv" ∷
    codes "skb" ∷
    codes "hw" ∷
    codes "multi" ∷
    []

-- why a link announces itself, by the numbers
abbrev pub events : List (List ℕ)
events =
    codes "none" ∷
    codes "reboot" ∷
    codes "features" ∷
    codes "bonding-failover" ∷
    codes "notify-peers" ∷
    codes "igmp-resend" ∷
    codes "bonding-options" ∷
    []

-- the flags of a frame
abbrev pub frame_flags : BitNames
frame_flags =
    (0x8000, codes "nested") ∷
    (0x4000, codes "net-byteorder") ∷
    []
