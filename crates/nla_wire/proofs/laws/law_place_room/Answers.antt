use Rattle.std.proofs.Common.{◌+◌, ◌*◌, length}
use Rattle.nla_wire.specs.Sizes.{growth_per_byte}
use Rattle.nla_wire.specs.Canon.{canon}
use Rattle.nla_wire.proofs.Written.{member_short, enough_room}
use Rattle.nla_wire.proofs.laws.law_place_room.Goals as goal

pub returns : goal.returns
returns g c =
    let place = g.P.Place.grammar c.args.place.now in
    enough_room (λ v. canon (g.V.Nla.frame v)) g.V.Nla.fits
    (place.reads c.args.buffer.now) (growth_per_byte * (4 + length c.args.buffer.now.payload))
    (λ v read. member_short place g.V.Nla.frame (g.met.P.Place.agrees c.args.place.now)
    (g.met.P.Place.bounded c.args.place.now) c.args.buffer.now v c.is_frame.ensures read)
