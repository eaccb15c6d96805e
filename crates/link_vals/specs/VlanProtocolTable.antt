-- The protocols of vlan tags: numbers, as in linux/if_ether.h.
use Rattle.std.specs.Prelude.{ℕ, List, [], ◌∷◌}
use Rattle.link_vals.specs.Table.{value_of}
use Rattle.link_vals.specs.declared.vlan_protocol.VlanProtocol.{VlanProtocol}
use Rattle.link_vals.specs.declared.vlan_protocol.VlanProtocol.TheVariants.{Ieee8021Q, Ieee8021Ad}

-- the listed values, in the order of their numbers
abbrev pub vlan_protocol_listed : List VlanProtocol
vlan_protocol_listed =
    Ieee8021Q ∷ Ieee8021Ad ∷ []

-- the number of a value
unfoldable pub vlan_protocol_number : VlanProtocol → ℕ
vlan_protocol_number Ieee8021Q = 33024
vlan_protocol_number Ieee8021Ad = 34984

-- the value of a number: the listed one, else `Ieee8021Q`
unfoldable pub vlan_protocol_of : ℕ → VlanProtocol
vlan_protocol_of n = value_of vlan_protocol_number vlan_protocol_listed Ieee8021Q n
