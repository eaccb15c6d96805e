use Rattle.std.proofs.Common.{length, arith, lit≤}
use Rattle.nla_wire.proofs.Front.{all_bytes}
use Rattle.nla_wire.proofs.Written.{enough_room}
use Rattle.link_nest.specs.Wireless.{wireless_event, wireless_encoding, WirelessFits}
use Rattle.link_nest.specs.WirelessLaws.{wireless_lawful, wireless_length}
use Rattle.link_nest.proofs.laws.law_wireless_room.Goals as goal

pub returns : goal.returns
returns c =
    let p = c.args.payload.now in
    let small = all_bytes p (λ i. omega (arith, c.type_inv.payload i)) in
    enough_room wireless_encoding WirelessFits (wireless_event.reads p) (length p)
    (λ v read. omega (arith, wireless_length p v ((wireless_lawful 0 (lit≤ tt)).agrees.found p v small read)))
