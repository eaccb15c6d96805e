-- The flags of links: names and bits, as in linux/if.h.
use Rattle.std.specs.Prelude.{ℕ, List, [], ◌∷◌, ◌++◌, codes}
use Rattle.bitflags.specs.Sets.{Row}
use Rattle.link_vals.specs.FlagText.{flags_text}
use Rattle.link_vals.specs.declared.link_flags.LinkFlags.{LinkFlags}

-- the bits of a value
abbrev pub link_flags_bits : LinkFlags → ℕ
link_flags_bits v = v.0

-- the value with these bits
abbrev pub link_flags_of : ℕ → LinkFlags
link_flags_of n = record { 0 = n }

-- the flags that have a name, in declared order
abbrev pub link_flags_named : List Row
link_flags_named =
    (codes "Up", 1) ∷
    (codes "Broadcast", 2) ∷
    (codes "Debug", 4) ∷
    (codes "Loopback", 8) ∷
    (codes "Pointopoint", 16) ∷
    (codes "Notrailers", 32) ∷
    (codes "Running", 64) ∷
    (codes "Noarp", 128) ∷
    (codes "Promisc", 256) ∷
    (codes "Allmulti", 512) ∷
    (codes "Controller", 1024) ∷
    (codes "Port", 2048) ∷
    (codes "Multicast", 4096) ∷
    (codes "Portsel", 8192) ∷
    (codes "Automedia", 16384) ∷
    (codes "Dynamic", 32768) ∷
    (codes "LowerUp", 65536) ∷
    (codes "Dormant", 131072) ∷
    (codes "Echo", 262144) ∷ []

-- every bit is known: the named flags, and then all bits without a name
abbrev pub link_flags_table : List Row
link_flags_table = link_flags_named ++ (codes "", 4294967295) ∷ []

-- the text of bits: the names of those that have one, in declared order, and the others (from bit 19 on) as one number
unfoldable pub link_flags_text : ℕ → List ℕ
link_flags_text bits = flags_text (λ row. row.0) (λ row. row.1) link_flags_named 0xfff8_0000 bits
