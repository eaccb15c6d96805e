-- What messages are shown by where nothing is known of them but the order of their counters of IPv6: the rows of all
-- places.
use Rattle.std.specs.Prelude.{◌≡◌, ℕ, List, [], ◌∷◌, map}
use Rattle.link_info.specs.Lent.{lent, member_now}
use Rattle.link_info.specs.Rows.{AreAllRows, own_rows}
use Rattle.link_info.specs.Values.{can_counters}
use Rattle.link_info.specs.declared.place.Place.{Place}
use Rattle.link_info.specs.declared.place.Place.TheVariants as Places
use Rattle.frame_shown.specs.Accepted.{before_members, lenient_members}
use Rattle.frame_shown.specs.Messages.{message_members}
use Rattle.frame_shown.specs.declared.form.Around.{Around}
use Rattle.frame_shown.specs.declared.form.Order.{Order}

pub record IsPlain (order : Order) (cx : Around) : Type 0 where
  pub tables : AreAllRows cx.tables.now
  pub counters : map member_now cx.can_stats.now ≡ can_counters
  pub order_is : cx.order ≡ order
  pub address : cx.address_len ≡ 0

-- by both the same is shown of bytes: of all their frames, of those that are accepted, and of those in front of a fault
pub record ShowAlike (cx other : Around) : Type 0 where
  pub whole : (bytes : List ℕ) → message_members cx bytes ≡ message_members other bytes
  pub accepted : (bytes : List ℕ) → lenient_members cx bytes ≡ lenient_members other bytes
  pub before : (bytes : List ℕ) → before_members cx bytes ≡ before_members other bytes

-- for each order there is one way to show a message
abbrev pub ShownByOrder : Type 0
ShownByOrder = (order : Order) (cx other : Around) → IsPlain order cx → IsPlain order other → ShowAlike cx other

-- all places, in the order of their tables
abbrev pub all_places : List Place
all_places =
    Places.Vlan ∷ Places.VlanQos ∷ Places.Bond ∷ Places.BondAdInfo ∷ Places.BondSlave ∷ Places.Bridge ∷
    Places.BridgeQuerier ∷ Places.BridgePort ∷ Places.Vxlan ∷ Places.Geneve ∷ Places.Gre ∷ Places.Gre6 ∷
    Places.IpTunnel ∷ Places.Ip6Tunnel ∷ Places.Vti ∷ Places.Vti6 ∷ Places.Xfrm ∷ Places.Macvlan ∷
    Places.MacvlanAddresses ∷ Places.Ipvlan ∷ Places.Macsec ∷ Places.Can ∷ Places.CanTdc ∷ Places.CanCtrlmode ∷
    Places.Vrf ∷ Places.VrfPort ∷ Places.Tun ∷ Places.Netkit ∷ Places.Hsr ∷ Places.Rmnet ∷ Places.Gtp ∷
    Places.Bareudp ∷ Places.Amt ∷ Places.Wwan ∷ Places.Ovpn ∷ Places.Veth ∷ Places.Vxcan ∷ Places.Ppp ∷
    Places.BridgeSpec ∷ Places.BridgeVlanTunnel ∷ Places.BridgeMst ∷ Places.BridgeMstEntry ∷ Places.Inet6 ∷
    Places.Port ∷ []

-- what messages are plainly shown by, by value
abbrev pub plain : Order → Around
plain order = record {
  tables = lent (map (λ place. lent (own_rows place)) all_places);
  can_stats = lent can_counters;
  order = order;
  address_len = 0;
}
