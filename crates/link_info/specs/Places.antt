-- The places of kinds.
use Rattle.std.specs.Prelude.{ℕ, ◌==◌, List, [], ◌∷◌, Option, None, Some, if◌then◌else◌, codes, get_or, map}
use Rattle.std.specs.Borrow.{Bor}
use lib.Pointwise.{pointwise}
use Rattle.link_info.specs.declared.place.Place.{Place}
use Rattle.link_info.specs.declared.place.Place.TheVariants as P
use Rattle.link_info.specs.declared.place.KindRow.{KindRow}
use Rattle.link_info.specs.declared.style.Row.{Row}

-- a kind, and the place of its data
abbrev pub Kind : Type 0
Kind = List ℕ × Place

-- the place beside the first of these kinds that has this text
abbrev pub place_in : List Kind → List ℕ → Option Place
place_in [] kind = None
place_in (row ∷ rows) kind = if pointwise ◌==◌ row.0 kind then Some row.1 else place_in rows kind

-- the same of a table
abbrev pub place_among : List KindRow → List ℕ → Option Place
place_among [] kind = None
place_among (row ∷ rows) kind = if pointwise ◌==◌ row.0.now kind then Some row.1 else place_among rows kind

-- the kinds of interfaces whose data has a table
abbrev pub kinds : List Kind
kinds =
    (codes "vlan", P.Vlan) ∷
    (codes "bond", P.Bond) ∷
    (codes "bridge", P.Bridge) ∷
    (codes "vxlan", P.Vxlan) ∷
    (codes "geneve", P.Geneve) ∷
    (codes "gre", P.Gre) ∷
    (codes "gretap", P.Gre) ∷
    (codes "erspan", P.Gre) ∷
    (codes "ip6gre", P.Gre6) ∷
    (codes "ip6gretap", P.Gre6) ∷
    (codes "ip6erspan", P.Gre6) ∷
    (codes "ipip", P.IpTunnel) ∷
    (codes "sit", P.IpTunnel) ∷
    (codes "ip6tnl", P.Ip6Tunnel) ∷
    (codes "vti", P.Vti) ∷
    (codes "vti6", P.Vti6) ∷
    (codes "xfrm", P.Xfrm) ∷
    (codes "macvlan", P.Macvlan) ∷
    (codes "macvtap", P.Macvlan) ∷
    (codes "ipvlan", P.Ipvlan) ∷
    (codes "ipvtap", P.Ipvlan) ∷
    (codes "macsec", P.Macsec) ∷
    (codes "can", P.Can) ∷
    (codes "vcan", P.Can) ∷
    (codes "vrf", P.Vrf) ∷
    (codes "tun", P.Tun) ∷
    (codes "netkit", P.Netkit) ∷
    (codes "hsr", P.Hsr) ∷
    (codes "rmnet", P.Rmnet) ∷
    (codes "gtp", P.Gtp) ∷
    (codes "bareudp", P.Bareudp) ∷
    (codes "amt", P.Amt) ∷
    (codes "wwan", P.Wwan) ∷
    (codes "ovpn", P.Ovpn) ∷
    (codes "veth", P.Veth) ∷
    (codes "vxcan", P.Vxcan) ∷
    (codes "ppp", P.Ppp) ∷ []

-- the kinds of ports whose data has a table
abbrev pub slave_kinds : List Kind
slave_kinds =
    (codes "bond", P.BondSlave) ∷
    (codes "bridge", P.BridgePort) ∷
    (codes "vrf", P.VrfPort) ∷ []

abbrev pub place_of_kind : List ℕ → Option Place
place_of_kind kind = place_in kinds kind

abbrev pub place_of_slave_kind : List ℕ → Option Place
place_of_slave_kind kind = place_in slave_kinds kind

-- ** tables of all places

-- where the rows of a place stand in a table of all
abbrev pub place_number : Place → ℕ
place_number P.Vlan = 0
place_number P.VlanQos = 1
place_number P.Bond = 2
place_number P.BondAdInfo = 3
place_number P.BondSlave = 4
place_number P.Bridge = 5
place_number P.BridgeQuerier = 6
place_number P.BridgePort = 7
place_number P.Vxlan = 8
place_number P.Geneve = 9
place_number P.Gre = 10
place_number P.Gre6 = 11
place_number P.IpTunnel = 12
place_number P.Ip6Tunnel = 13
place_number P.Vti = 14
place_number P.Vti6 = 15
place_number P.Xfrm = 16
place_number P.Macvlan = 17
place_number P.MacvlanAddresses = 18
place_number P.Ipvlan = 19
place_number P.Macsec = 20
place_number P.Can = 21
place_number P.CanTdc = 22
place_number P.CanCtrlmode = 23
place_number P.Vrf = 24
place_number P.VrfPort = 25
place_number P.Tun = 26
place_number P.Netkit = 27
place_number P.Hsr = 28
place_number P.Rmnet = 29
place_number P.Gtp = 30
place_number P.Bareudp = 31
place_number P.Amt = 32
place_number P.Wwan = 33
place_number P.Ovpn = 34
place_number P.Veth = 35
place_number P.Vxcan = 36
place_number P.Ppp = 37
place_number P.BridgeSpec = 38
place_number P.BridgeVlanTunnel = 39
place_number P.BridgeMst = 40
place_number P.BridgeMstEntry = 41
place_number P.Inet6 = 42
place_number P.Port = 43

-- the rows of a place in a table of all
abbrev pub rows_of : List (Bor (List Row)) → Place → List Row
rows_of tables place = get_or (map (λ rows. rows.now) tables) (place_number place) []
