-- What messages are plainly shown by, by value, has the rows of all places.
use Rattle.std.proofs.Common.{refl}
use Rattle.link_info.specs.Rows.{AreAllRows}
use Rattle.link_info.specs.declared.place.Place.TheVariants as Places
use Rattle.frame_shown.specs.Plain.{IsPlain, plain}
use Rattle.frame_shown.specs.declared.form.Order.{Order}

plain_rows : (order : Order) → AreAllRows (plain order).tables.now
plain_rows order Places.Vlan = refl
plain_rows order Places.VlanQos = refl
plain_rows order Places.Bond = refl
plain_rows order Places.BondAdInfo = refl
plain_rows order Places.BondSlave = refl
plain_rows order Places.Bridge = refl
plain_rows order Places.BridgeQuerier = refl
plain_rows order Places.BridgePort = refl
plain_rows order Places.Vxlan = refl
plain_rows order Places.Geneve = refl
plain_rows order Places.Gre = refl
plain_rows order Places.Gre6 = refl
plain_rows order Places.IpTunnel = refl
plain_rows order Places.Ip6Tunnel = refl
plain_rows order Places.Vti = refl
plain_rows order Places.Vti6 = refl
plain_rows order Places.Xfrm = refl
plain_rows order Places.Macvlan = refl
plain_rows order Places.MacvlanAddresses = refl
plain_rows order Places.Ipvlan = refl
plain_rows order Places.Macsec = refl
plain_rows order Places.Can = refl
plain_rows order Places.CanTdc = refl
plain_rows order Places.CanCtrlmode = refl
plain_rows order Places.Vrf = refl
plain_rows order Places.VrfPort = refl
plain_rows order Places.Tun = refl
plain_rows order Places.Netkit = refl
plain_rows order Places.Hsr = refl
plain_rows order Places.Rmnet = refl
plain_rows order Places.Gtp = refl
plain_rows order Places.Bareudp = refl
plain_rows order Places.Amt = refl
plain_rows order Places.Wwan = refl
plain_rows order Places.Ovpn = refl
plain_rows order Places.Veth = refl
plain_rows order Places.Vxcan = refl
plain_rows order Places.Ppp = refl
plain_rows order Places.BridgeSpec = refl
plain_rows order Places.BridgeVlanTunnel = refl
plain_rows order Places.BridgeMst = refl
plain_rows order Places.BridgeMstEntry = refl
plain_rows order Places.Inet6 = refl
plain_rows order Places.Port = refl

pub plain_is : (order : Order) → IsPlain order (plain order)
plain_is order = record { tables = plain_rows order; counters = refl; order_is = refl; address = refl }
