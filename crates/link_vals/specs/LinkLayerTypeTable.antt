-- The hardware types of links: numbers, as in linux/if_arp.h, and texts.
use Rattle.std.specs.Prelude.{ℕ, List, [], ◌∷◌, codes}
use Rattle.link_vals.specs.Table.{value_of}
use Rattle.link_vals.specs.declared.link_layer_type.LinkLayerType.{LinkLayerType}
use Rattle.link_vals.specs.declared.link_layer_type.LinkLayerType.TheVariants.{Netrom, Ether, Eether, Ax25, Pronet}
use Rattle.link_vals.specs.declared.link_layer_type.LinkLayerType.TheVariants.{Chaos, Ieee802, Arcnet, Appletlk, Dlci}
use Rattle.link_vals.specs.declared.link_layer_type.LinkLayerType.TheVariants.{Atm, Metricom, Ieee1394, Eui64}
use Rattle.link_vals.specs.declared.link_layer_type.LinkLayerType.TheVariants.{Infiniband, Slip, Cslip, Slip6, Cslip6}
use Rattle.link_vals.specs.declared.link_layer_type.LinkLayerType.TheVariants.{Rsrvd, Adapt, Rose, X25, Hwx25, Can}
use Rattle.link_vals.specs.declared.link_layer_type.LinkLayerType.TheVariants.{Mctp, Ppp, Hdlc, Lapb, Ddcmp, Rawhdlc}
use Rattle.link_vals.specs.declared.link_layer_type.LinkLayerType.TheVariants.{Rawip, Tunnel, Tunnel6, Frad, Skip}
use Rattle.link_vals.specs.declared.link_layer_type.LinkLayerType.TheVariants.{Loopback, Localtlk, Fddi, Bif, Sit}
use Rattle.link_vals.specs.declared.link_layer_type.LinkLayerType.TheVariants.{Ipddp, Ipgre, Pimreg, Hippi, Ash}
use Rattle.link_vals.specs.declared.link_layer_type.LinkLayerType.TheVariants.{Econet, Irda, Fcpp, Fcal, Fcpl}
use Rattle.link_vals.specs.declared.link_layer_type.LinkLayerType.TheVariants.{Fcfabric, Ieee802Tr, Ieee80211}
use Rattle.link_vals.specs.declared.link_layer_type.LinkLayerType.TheVariants.{Ieee80211Prism, Ieee80211Radiotap}
use Rattle.link_vals.specs.declared.link_layer_type.LinkLayerType.TheVariants.{Ieee802154, Ieee802154Monitor, Phonet}
use Rattle.link_vals.specs.declared.link_layer_type.LinkLayerType.TheVariants.{PhonetPipe, Caif, Ip6gre, Netlink}
use Rattle.link_vals.specs.declared.link_layer_type.LinkLayerType.TheVariants.{Sixlowpan, Vsockmon, None, Void}

-- the listed values from 512 on, in the order of their numbers
abbrev pub layer_type_listed_high : List LinkLayerType
layer_type_listed_high =
    Ppp ∷ Hdlc ∷ Lapb ∷ Ddcmp ∷ Rawhdlc ∷ Rawip ∷ Tunnel ∷ Tunnel6 ∷ Frad ∷ Skip ∷ Loopback ∷ Localtlk ∷ Fddi
    ∷ Bif ∷ Sit ∷ Ipddp ∷ Ipgre ∷ Pimreg ∷ Hippi ∷ Ash ∷ Econet ∷ Irda ∷ Fcpp ∷ Fcal ∷ Fcpl ∷ Fcfabric ∷
    Ieee802Tr ∷ Ieee80211 ∷ Ieee80211Prism ∷ Ieee80211Radiotap ∷ Ieee802154 ∷ Ieee802154Monitor ∷ Phonet ∷
    PhonetPipe ∷ Caif ∷ Ip6gre ∷ Netlink ∷ Sixlowpan ∷ Vsockmon ∷ None ∷ Void ∷ []

-- all listed values, in the order of their numbers
abbrev pub layer_type_listed : List LinkLayerType
layer_type_listed =
    Netrom ∷ Ether ∷ Eether ∷ Ax25 ∷ Pronet ∷ Chaos ∷ Ieee802 ∷ Arcnet ∷ Appletlk ∷ Dlci ∷ Atm ∷ Metricom ∷
    Ieee1394 ∷ Eui64 ∷ Infiniband ∷ Slip ∷ Cslip ∷ Slip6 ∷ Cslip6 ∷ Rsrvd ∷ Adapt ∷ Rose ∷ X25 ∷ Hwx25 ∷ Can ∷
    Mctp ∷ layer_type_listed_high

-- the number of a value
unfoldable pub layer_type_number : LinkLayerType → ℕ
layer_type_number Netrom = 0
layer_type_number Ether = 1
layer_type_number Eether = 2
layer_type_number Ax25 = 3
layer_type_number Pronet = 4
layer_type_number Chaos = 5
layer_type_number Ieee802 = 6
layer_type_number Arcnet = 7
layer_type_number Appletlk = 8
layer_type_number Dlci = 15
layer_type_number Atm = 19
layer_type_number Metricom = 23
layer_type_number Ieee1394 = 24
layer_type_number Eui64 = 27
layer_type_number Infiniband = 32
layer_type_number Slip = 256
layer_type_number Cslip = 257
layer_type_number Slip6 = 258
layer_type_number Cslip6 = 259
layer_type_number Rsrvd = 260
layer_type_number Adapt = 264
layer_type_number Rose = 270
layer_type_number X25 = 271
layer_type_number Hwx25 = 272
layer_type_number Can = 280
layer_type_number Mctp = 290
layer_type_number Ppp = 512
layer_type_number Hdlc = 513
layer_type_number Lapb = 516
layer_type_number Ddcmp = 517
layer_type_number Rawhdlc = 518
layer_type_number Rawip = 519
layer_type_number Tunnel = 768
layer_type_number Tunnel6 = 769
layer_type_number Frad = 770
layer_type_number Skip = 771
layer_type_number Loopback = 772
layer_type_number Localtlk = 773
layer_type_number Fddi = 774
layer_type_number Bif = 775
layer_type_number Sit = 776
layer_type_number Ipddp = 777
layer_type_number Ipgre = 778
layer_type_number Pimreg = 779
layer_type_number Hippi = 780
layer_type_number Ash = 781
layer_type_number Econet = 782
layer_type_number Irda = 783
layer_type_number Fcpp = 784
layer_type_number Fcal = 785
layer_type_number Fcpl = 786
layer_type_number Fcfabric = 787
layer_type_number Ieee802Tr = 800
layer_type_number Ieee80211 = 801
layer_type_number Ieee80211Prism = 802
layer_type_number Ieee80211Radiotap = 803
layer_type_number Ieee802154 = 804
layer_type_number Ieee802154Monitor = 805
layer_type_number Phonet = 820
layer_type_number PhonetPipe = 821
layer_type_number Caif = 822
layer_type_number Ip6gre = 823
layer_type_number Netlink = 824
layer_type_number Sixlowpan = 825
layer_type_number Vsockmon = 826
layer_type_number None = 65534
layer_type_number Void = 65535

-- the value of a number: the listed one, else `Void`
unfoldable pub layer_type_of : ℕ → LinkLayerType
layer_type_of n = value_of layer_type_number layer_type_listed Void n

-- the text of a value
unfoldable pub layer_type_text : LinkLayerType → List ℕ
layer_type_text Netrom = codes "NETROM"
layer_type_text Ether = codes "ETHER"
layer_type_text Eether = codes "EETHER"
layer_type_text Ax25 = codes "AX25"
layer_type_text Pronet = codes "PRONET"
layer_type_text Chaos = codes "CHAOS"
layer_type_text Ieee802 = codes "IEEE802"
layer_type_text Arcnet = codes "ARCNET"
layer_type_text Appletlk = codes "APPLETLK"
layer_type_text Dlci = codes "DLCI"
layer_type_text Atm = codes "ATM"
layer_type_text Metricom = codes "METRICOM"
layer_type_text Ieee1394 = codes "IEEE1394"
layer_type_text Eui64 = codes "EUI64"
layer_type_text Infiniband = codes "INFINIBAND"
layer_type_text Slip = codes "SLIP"
layer_type_text Cslip = codes "CSLIP"
layer_type_text Slip6 = codes "SLIP6"
layer_type_text Cslip6 = codes "CSLIP6"
layer_type_text Rsrvd = codes "RSRVD"
layer_type_text Adapt = codes "ADAPT"
layer_type_text Rose = codes "ROSE"
layer_type_text X25 = codes "X25"
layer_type_text Hwx25 = codes "HWX25"
layer_type_text Can = codes "CAN"
layer_type_text Mctp = codes "MCTP"
layer_type_text Ppp = codes "PPP"
layer_type_text Hdlc = codes "HDLC"
layer_type_text Lapb = codes "LAPB"
layer_type_text Ddcmp = codes "DDCMP"
layer_type_text Rawhdlc = codes "RAWHDLC"
layer_type_text Rawip = codes "RAWIP"
layer_type_text Tunnel = codes "TUNNEL"
layer_type_text Tunnel6 = codes "TUNNEL6"
layer_type_text Frad = codes "FRAD"
layer_type_text Skip = codes "SKIP"
layer_type_text Loopback = codes "LOOPBACK"
layer_type_text Localtlk = codes "LOCALTLK"
layer_type_text Fddi = codes "FDDI"
layer_type_text Bif = codes "BIF"
layer_type_text Sit = codes "SIT"
layer_type_text Ipddp = codes "IPDDP"
layer_type_text Ipgre = codes "IPGRE"
layer_type_text Pimreg = codes "PIMREG"
layer_type_text Hippi = codes "HIPPI"
layer_type_text Ash = codes "ASH"
layer_type_text Econet = codes "ECONET"
layer_type_text Irda = codes "IRDA"
layer_type_text Fcpp = codes "FCPP"
layer_type_text Fcal = codes "FCAL"
layer_type_text Fcpl = codes "FCPL"
layer_type_text Fcfabric = codes "FCFABRIC"
layer_type_text Ieee802Tr = codes "IEEE802_TR"
layer_type_text Ieee80211 = codes "IEEE80211"
layer_type_text Ieee80211Prism = codes "IEEE80211_PRISM"
layer_type_text Ieee80211Radiotap = codes "IEEE80211_RADIOTAP"
layer_type_text Ieee802154 = codes "IEEE802154"
layer_type_text Ieee802154Monitor = codes "IEEE802154_MONITOR"
layer_type_text Phonet = codes "PHONET"
layer_type_text PhonetPipe = codes "PHONET_PIPE"
layer_type_text Caif = codes "CAIF"
layer_type_text Ip6gre = codes "IP6GRE"
layer_type_text Netlink = codes "NETLINK"
layer_type_text Sixlowpan = codes "6LOWPAN"
layer_type_text Vsockmon = codes "VSOCKMON"
layer_type_text None = codes "NONE"
layer_type_text Void = codes "VOID"
