use Rattle.std.proofs.Common.{arith}
use Rattle.nla_wire.specs.Grammar.{members}
use Rattle.nla_wire.specs.Canon.{canons, AllFit}
use Rattle.nla_wire.proofs.Front.{all_bytes}
use Rattle.nla_wire.proofs.Meant.{means_length}
use Rattle.nla_wire.proofs.Selected.{members_agree}
use Rattle.nla_wire.proofs.members.measure_members.Goals as goal

pub returns-clause-means : goal.returns-clause-means
returns-clause-means g c =
    let picks = g.P.Place.picks c.args.place.now in
    let place = g.P.Place.grammar c.args.place.now in
    means_length (members picks place) (members_agree place picks (g.met.P.Place.agrees c.args.place.now))
    c.args.bytes.now (all_bytes c.args.bytes.now (λ i. omega (arith, c.type_inv.bytes i))) (canons g.V.Nla.frame)
    (AllFit g.V.Nla.fits g.V.Nla.frame) c.measure_each.result c.measure_each.ensures
