-- Lists with the same rows.
use Rattle.std.proofs.Common.{◌≡◌, true, List, [], ◌∷◌, ◌∙◌, ap, refl, sym, eqb-true, get_or}
use Rattle.std.specs.Prelude.{◌==◌}
use Rattle.link_info.specs.Places.{place_number}
use Rattle.link_info.specs.declared.place.Place.{Place}
use Rattle.link_info.specs.declared.place.Place.TheVariants as Places
use Rattle.frame_shown.specs.declared.form.Table.{Table}
use Rattle.frame_shown.specs.declared.form.Table.TheVariants as Tables
use Rattle.frame_diff.specs.Same.{table_number}

-- the places, and the tables, by their numbers
abbrev all_places : List Place
all_places =
    Places.Vlan ∷
    Places.VlanQos ∷
    Places.Bond ∷
    Places.BondAdInfo ∷
    Places.BondSlave ∷
    Places.Bridge ∷
    Places.BridgeQuerier ∷
    Places.BridgePort ∷
    Places.Vxlan ∷
    Places.Geneve ∷
    Places.Gre ∷
    Places.Gre6 ∷
    Places.IpTunnel ∷
    Places.Ip6Tunnel ∷
    Places.Vti ∷
    Places.Vti6 ∷
    Places.Xfrm ∷
    Places.Macvlan ∷
    Places.MacvlanAddresses ∷
    Places.Ipvlan ∷
    Places.Macsec ∷
    Places.Can ∷
    Places.CanTdc ∷
    Places.CanCtrlmode ∷
    Places.Vrf ∷
    Places.VrfPort ∷
    Places.Tun ∷
    Places.Netkit ∷
    Places.Hsr ∷
    Places.Rmnet ∷
    Places.Gtp ∷
    Places.Bareudp ∷
    Places.Amt ∷
    Places.Wwan ∷
    Places.Ovpn ∷
    Places.Veth ∷
    Places.Vxcan ∷
    Places.Ppp ∷
    Places.BridgeSpec ∷
    Places.BridgeVlanTunnel ∷
    Places.BridgeMst ∷
    Places.BridgeMstEntry ∷
    Places.Inet6 ∷
    Places.Port ∷
    []

place_back : (place : Place) → get_or all_places (place_number place) Places.Vlan ≡ place
place_back Places.Vlan = refl
place_back Places.VlanQos = refl
place_back Places.Bond = refl
place_back Places.BondAdInfo = refl
place_back Places.BondSlave = refl
place_back Places.Bridge = refl
place_back Places.BridgeQuerier = refl
place_back Places.BridgePort = refl
place_back Places.Vxlan = refl
place_back Places.Geneve = refl
place_back Places.Gre = refl
place_back Places.Gre6 = refl
place_back Places.IpTunnel = refl
place_back Places.Ip6Tunnel = refl
place_back Places.Vti = refl
place_back Places.Vti6 = refl
place_back Places.Xfrm = refl
place_back Places.Macvlan = refl
place_back Places.MacvlanAddresses = refl
place_back Places.Ipvlan = refl
place_back Places.Macsec = refl
place_back Places.Can = refl
place_back Places.CanTdc = refl
place_back Places.CanCtrlmode = refl
place_back Places.Vrf = refl
place_back Places.VrfPort = refl
place_back Places.Tun = refl
place_back Places.Netkit = refl
place_back Places.Hsr = refl
place_back Places.Rmnet = refl
place_back Places.Gtp = refl
place_back Places.Bareudp = refl
place_back Places.Amt = refl
place_back Places.Wwan = refl
place_back Places.Ovpn = refl
place_back Places.Veth = refl
place_back Places.Vxcan = refl
place_back Places.Ppp = refl
place_back Places.BridgeSpec = refl
place_back Places.BridgeVlanTunnel = refl
place_back Places.BridgeMst = refl
place_back Places.BridgeMstEntry = refl
place_back Places.Inet6 = refl
place_back Places.Port = refl

pub one_place : (a b : Place) → (place_number a == place_number b) ≡ true → a ≡ b
one_place a b h =
    sym (place_back a)
    ∙ ap (λ n. get_or all_places n Places.Vlan) (eqb-true (place_number a) (place_number b) h)
    ∙ place_back b

abbrev all_tables : List Table
all_tables =
    Tables.Families ∷
    Tables.Inet ∷
    Tables.Inet6 ∷
    Tables.Mctp ∷
    Tables.Xdp ∷
    Tables.Props ∷
    Tables.DevlinkPort ∷
    Tables.DpllPin ∷
    Tables.DownReason ∷
    Tables.Function ∷
    Tables.FunctionStats ∷
    Tables.FunctionVlans ∷
    []

table_back : (table : Table) → get_or all_tables (table_number table) Tables.Families ≡ table
table_back Tables.Families = refl
table_back Tables.Inet = refl
table_back Tables.Inet6 = refl
table_back Tables.Mctp = refl
table_back Tables.Xdp = refl
table_back Tables.Props = refl
table_back Tables.DevlinkPort = refl
table_back Tables.DpllPin = refl
table_back Tables.DownReason = refl
table_back Tables.Function = refl
table_back Tables.FunctionStats = refl
table_back Tables.FunctionVlans = refl

pub one_table : (a b : Table) → (table_number a == table_number b) ≡ true → a ≡ b
one_table a b h =
    sym (table_back a)
    ∙ ap (λ n. get_or all_tables n Tables.Families) (eqb-true (table_number a) (table_number b) h)
    ∙ table_back b
