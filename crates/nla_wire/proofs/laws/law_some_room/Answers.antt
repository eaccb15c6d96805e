use Rattle.std.proofs.Common.{◌*◌, length}
use Rattle.nla_wire.specs.Sizes.{growth_per_byte}
use Rattle.nla_wire.specs.Grammar.{list}
use Rattle.nla_wire.specs.Canon.{canons, AllFit}
use Rattle.nla_wire.proofs.Written.{unless_empty_room}
use Rattle.nla_wire.proofs.laws.law_some_room.Goals as goal

pub returns : goal.returns
returns g c =
    unless_empty_room (canons g.N.Nla.frame)
    (AllFit g.N.Nla.fits g.N.Nla.frame) c.args.bytes.now ((list g.N.NlaRead.grammar).reads c.args.bytes.now)
    (growth_per_byte * length c.args.bytes.now) c.law_list_room.ensures
