-- What kinds of device a list tells of.
use Rattle.std.specs.Prelude.{ℕ, ◌==◌, if◌then◌else◌, List, [], ◌∷◌, Ok, Err, codes}
use lib.Pointwise.{pointwise}
use Rattle.nla_wire.specs.Frames.{number}
use Rattle.nla_wire.specs.Items.{Item, items}
use Rattle.nla_wire.specs.Payloads.{without_nul}
use Rattle.link_nest.specs.declared.numbers.TheConstants.{IFLA_INFO_KIND}
use Rattle.link_state.specs.declared.kind.Kind.{Kind}
use Rattle.link_state.specs.declared.kind.Kind.TheVariants.{Bridge, Bond, Can, Hsr, Other}

-- of a device: the data of "vcan" have the numbers of those of "can"
abbrev pub device_kind_of : List ℕ → Kind
device_kind_of name =
    if pointwise ◌==◌ name (codes "bridge") then Bridge
    else if pointwise ◌==◌ name (codes "can") then Can
    else if pointwise ◌==◌ name (codes "vcan") then Can
    else if pointwise ◌==◌ name (codes "hsr") then Hsr
    else Other

-- of a device of whose ports something moves
abbrev pub port_kind_of : List ℕ → Kind
port_kind_of name =
    if pointwise ◌==◌ name (codes "bridge") then Bridge
    else if pointwise ◌==◌ name (codes "bond") then Bond
    else Other

-- the kind with this name, as an attribute of this number tells it
abbrev pub kind_named : ℕ → List ℕ → Kind
kind_named n name = if n == IFLA_INFO_KIND then device_kind_of name else port_kind_of name

-- the kind that a payload names, whose name one NUL may end
abbrev pub kind_of : ℕ → List ℕ → Kind
kind_of n p = kind_named n (without_nul p)

abbrev pub first_kind : ℕ → List Item → Kind
first_kind n [] = Other
first_kind n ((Ok f) ∷ xs) = if number f == n then kind_of n f.payload else first_kind n xs
first_kind n ((Err c) ∷ xs) = Other

-- the kind that a frame of this number names: of several the first one decides, whatever it names
unfoldable pub kind_at : ℕ → List ℕ → Kind
kind_at n b = first_kind n (items b)
