-- The numbers that are read apart from the others: those of numbers, ids and records, with no room on the stack for a
-- value, and those of bytes and texts.
use Rattle.std.specs.Prelude.{◌≢◌, ℕ}
use Rattle.link_msg.specs.declared.numbers.TheConstants as kernel

-- the number is none of these
abbrev pub NotPlain : ℕ → Type 0
NotPlain n =
    (n ≢ kernel.IFLA_MTU)
    × (n ≢ kernel.IFLA_LINK)
    × (n ≢ kernel.IFLA_STATS)
    × (n ≢ kernel.IFLA_MASTER)
    × (n ≢ kernel.IFLA_TXQLEN)
    × (n ≢ kernel.IFLA_MAP)
    × (n ≢ kernel.IFLA_OPERSTATE)
    × (n ≢ kernel.IFLA_LINKMODE)
    × (n ≢ kernel.IFLA_NET_NS_PID)
    × (n ≢ kernel.IFLA_NUM_VF)
    × (n ≢ kernel.IFLA_STATS64)
    × (n ≢ kernel.IFLA_GROUP)
    × (n ≢ kernel.IFLA_NET_NS_FD)
    × (n ≢ kernel.IFLA_PROMISCUITY)
    × (n ≢ kernel.IFLA_NUM_TX_QUEUES)
    × (n ≢ kernel.IFLA_NUM_RX_QUEUES)
    × (n ≢ kernel.IFLA_CARRIER)
    × (n ≢ kernel.IFLA_PHYS_PORT_ID)
    × (n ≢ kernel.IFLA_CARRIER_CHANGES)
    × (n ≢ kernel.IFLA_PHYS_SWITCH_ID)
    × (n ≢ kernel.IFLA_LINK_NETNSID)
    × (n ≢ kernel.IFLA_PROTO_DOWN)
    × (n ≢ kernel.IFLA_GSO_MAX_SEGS)
    × (n ≢ kernel.IFLA_GSO_MAX_SIZE)
    × (n ≢ kernel.IFLA_EVENT)
    × (n ≢ kernel.IFLA_NEW_NETNSID)
    × (n ≢ kernel.IFLA_IF_NETNSID)
    × (n ≢ kernel.IFLA_CARRIER_UP_COUNT)
    × (n ≢ kernel.IFLA_CARRIER_DOWN_COUNT)
    × (n ≢ kernel.IFLA_NEW_IFINDEX)
    × (n ≢ kernel.IFLA_MIN_MTU)
    × (n ≢ kernel.IFLA_MAX_MTU)
    × (n ≢ kernel.IFLA_GRO_MAX_SIZE)
    × (n ≢ kernel.IFLA_TSO_MAX_SIZE)
    × (n ≢ kernel.IFLA_TSO_MAX_SEGS)
    × (n ≢ kernel.IFLA_ALLMULTI)
    × (n ≢ kernel.IFLA_GSO_IPV4_MAX_SIZE)
    × (n ≢ kernel.IFLA_GRO_IPV4_MAX_SIZE)
    × (n ≢ kernel.IFLA_NETNS_IMMUTABLE)

-- nor one of these, which are bytes and texts
abbrev pub NotText : ℕ → Type 0
NotText n =
    (n ≢ kernel.IFLA_ADDRESS)
    × (n ≢ kernel.IFLA_BROADCAST)
    × (n ≢ kernel.IFLA_IFNAME)
    × (n ≢ kernel.IFLA_QDISC)
    × (n ≢ kernel.IFLA_IFALIAS)
    × (n ≢ kernel.IFLA_PHYS_PORT_NAME)
    × (n ≢ kernel.IFLA_PERM_ADDRESS)
    × (n ≢ kernel.IFLA_PARENT_DEV_NAME)
    × (n ≢ kernel.IFLA_PARENT_DEV_BUS_NAME)
