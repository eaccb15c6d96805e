use Rattle.std.proofs.Common.{◌*◌, length, arith}
use Rattle.nla_wire.specs.Sizes.{growth, growth_per_byte}
use Rattle.nla_wire.specs.Grammar.{members}
use Rattle.nla_wire.specs.Canon.{canons, AllFit}
use Rattle.nla_wire.proofs.Front.{all_bytes}
use Rattle.nla_wire.proofs.Selected.{members_agree}
use Rattle.nla_wire.proofs.Bounds.{members_length}
use Rattle.nla_wire.proofs.Written.{enough_room}
use Rattle.nla_wire.proofs.laws.law_members_room.Goals as goal

pub returns : goal.returns
returns g c =
    let picks = g.P.Place.picks c.args.place.now in
    let place = g.P.Place.grammar c.args.place.now in
    let small = all_bytes c.args.bytes.now (λ i. omega (arith, c.type_inv.bytes i)) in
    enough_room (canons g.V.Nla.frame) (AllFit g.V.Nla.fits g.V.Nla.frame) ((members picks place).reads
    c.args.bytes.now) (growth_per_byte * length c.args.bytes.now)
    (λ vs read. omega (
      arith,
      members_length place g.V.Nla.frame growth 0
          (λ f v m. omega (arith, g.met.P.Place.bounded c.args.place.now f v m)) picks c.args.bytes.now vs
          ((members_agree place picks (g.met.P.Place.agrees c.args.place.now)).found c.args.bytes.now vs small read),
    ))
