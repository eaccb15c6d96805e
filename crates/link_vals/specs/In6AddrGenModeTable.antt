-- How links make IPv6 addresses: numbers, as in linux/if_link.h, and texts.
use Rattle.std.specs.Prelude.{ℕ, List, [], ◌∷◌, codes, ◌++◌}
use Rattle.std.specs.Fmt.{decimal}
use Rattle.link_vals.specs.Table.{value_of}
use Rattle.link_vals.specs.declared.addr_gen_mode.In6AddrGenMode.{In6AddrGenMode}
use Rattle.link_vals.specs.declared.addr_gen_mode.In6AddrGenMode.TheVariants.{Eui64, None, StablePrivacy, Random, Other}

-- the listed values, in the order of their numbers
abbrev pub in6_addr_gen_mode_listed : List In6AddrGenMode
in6_addr_gen_mode_listed =
    Eui64 ∷ None ∷ StablePrivacy ∷ Random ∷ []

-- the number of a value
unfoldable pub in6_addr_gen_mode_number : In6AddrGenMode → ℕ
in6_addr_gen_mode_number Eui64 = 0
in6_addr_gen_mode_number None = 1
in6_addr_gen_mode_number StablePrivacy = 2
in6_addr_gen_mode_number Random = 3
in6_addr_gen_mode_number (Other n) = n

-- the value of a number: the listed one, else `Other`
unfoldable pub in6_addr_gen_mode_of : ℕ → In6AddrGenMode
in6_addr_gen_mode_of n = value_of in6_addr_gen_mode_number in6_addr_gen_mode_listed (Other n) n

-- the text of a value
unfoldable pub in6_addr_gen_mode_text : In6AddrGenMode → List ℕ
in6_addr_gen_mode_text Eui64 = codes "eui64"
in6_addr_gen_mode_text None = codes "none"
in6_addr_gen_mode_text StablePrivacy = codes "stable_privacy"
in6_addr_gen_mode_text Random = codes "random"
in6_addr_gen_mode_text (Other n) = codes "other(" ++ decimal n ++ codes ")"
