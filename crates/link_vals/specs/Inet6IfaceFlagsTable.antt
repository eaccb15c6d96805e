-- The flags of IPv6 interfaces: names and bits, as in net/if_inet6.h of the kernel.
use Rattle.std.specs.Prelude.{ℕ, List, [], ◌∷◌, ◌++◌, codes}
use Rattle.bitflags.specs.Sets.{Row}
use Rattle.link_vals.specs.declared.inet6_iface_flags.Inet6IfaceFlags.{Inet6IfaceFlags}

-- the bits of a value
abbrev pub inet6_iface_flags_bits : Inet6IfaceFlags → ℕ
inet6_iface_flags_bits v = v.0

-- the value with these bits
abbrev pub inet6_iface_flags_of : ℕ → Inet6IfaceFlags
inet6_iface_flags_of n = record { 0 = n }

-- the flags that have a name, in declared order
abbrev pub inet6_iface_flags_named : List Row
inet6_iface_flags_named =
    (codes "Otherconf", 128) ∷
    (codes "RaManaged", 64) ∷
    (codes "RaRcvd", 32) ∷
    (codes "RsSent", 16) ∷
    (codes "Ready", 2147483648) ∷ []

-- every bit is known: the named flags, and then all bits without a name
abbrev pub inet6_iface_flags_table : List Row
inet6_iface_flags_table = inet6_iface_flags_named ++ (codes "", 4294967295) ∷ []
