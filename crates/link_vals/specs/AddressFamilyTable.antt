-- The address families: numbers, as in linux/socket.h.
use Rattle.std.specs.Prelude.{ℕ, List, [], ◌∷◌}
use Rattle.link_vals.specs.Table.{value_of}
use Rattle.link_vals.specs.declared.address_family.AddressFamily.{AddressFamily}
use Rattle.link_vals.specs.declared.address_family.AddressFamily.TheVariants.{Unspec, Inet, Bridge, Inet6, Mctp, Other}

-- the listed values, in the order of their numbers
abbrev pub address_family_listed : List AddressFamily
address_family_listed =
    Unspec ∷ Inet ∷ Bridge ∷ Inet6 ∷ Mctp ∷ []

-- the number of a value
unfoldable pub address_family_number : AddressFamily → ℕ
address_family_number Unspec = 0
address_family_number Inet = 2
address_family_number Bridge = 7
address_family_number Inet6 = 10
address_family_number Mctp = 45
address_family_number (Other n) = n

-- the value of a number: the listed one, else `Other`
unfoldable pub address_family_of : ℕ → AddressFamily
address_family_of n = value_of address_family_number address_family_listed (Other n) n
