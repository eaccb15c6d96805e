-- Lists of which only the members with the number 1 are read: that of IFLA_VF_INFO and of IFLA_VF_PORT.
use Rattle.std.specs.Prelude.{◌≡◌, ℕ, List, filter}
use Rattle.nla_wire.specs.Frames.{Frame, Frames}
use Rattle.nla_wire.specs.Grammar.{Grammar, is_one}

-- frames of other numbers can stand anywhere in a list, or be taken from it, whatever their payloads: it means the same
abbrev pub OthersDropped : {V : Type 0} → Grammar (List ℕ) (List V) → Type 0
OthersDropped {V} g =
    (p q : List ℕ) (fs gs : List Frame) → Frames p fs → Frames q gs → filter is_one fs ≡ filter is_one gs
    → (vs : List V) → g.means p vs → g.means q vs
