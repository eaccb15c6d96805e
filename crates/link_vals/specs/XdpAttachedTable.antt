-- Where XDP programs are attached: numbers, as in linux/if_link.h.
use Rattle.std.specs.Prelude.{ℕ, List, [], ◌∷◌}
use Rattle.link_vals.specs.Table.{value_of}
use Rattle.link_vals.specs.declared.xdp_attached.XdpAttached.{XdpAttached}
use Rattle.link_vals.specs.declared.xdp_attached.XdpAttached.TheVariants.{None, Driver, SocketBuffer, Hardware}
use Rattle.link_vals.specs.declared.xdp_attached.XdpAttached.TheVariants.{Multiple, Other}

-- the listed values, in the order of their numbers
abbrev pub xdp_attached_listed : List XdpAttached
xdp_attached_listed =
    None ∷ Driver ∷ SocketBuffer ∷ Hardware ∷ Multiple ∷ []

-- the number of a value
unfoldable pub xdp_attached_number : XdpAttached → ℕ
xdp_attached_number None = 0
xdp_attached_number Driver = 1
xdp_attached_number SocketBuffer = 2
xdp_attached_number Hardware = 3
xdp_attached_number Multiple = 4
xdp_attached_number (Other n) = n

-- the value of a number: the listed one, else `Other`
unfoldable pub xdp_attached_of : ℕ → XdpAttached
xdp_attached_of n = value_of xdp_attached_number xdp_attached_listed (Other n) n
