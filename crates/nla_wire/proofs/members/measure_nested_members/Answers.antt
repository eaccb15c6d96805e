use Rattle.std.proofs.Common.{rules, arith}
use Rattle.nla_wire.specs.Grammar.{members}
use Rattle.nla_wire.specs.Canon.{canons, AllFit}
use Rattle.nla_wire.proofs.Front.{all_bytes}
use Rattle.nla_wire.proofs.Meant.{means_length}
use Rattle.nla_wire.proofs.Selected.{members_agree}
use Rattle.nla_wire.proofs.Written.{NestFits}
use Rattle.nla_wire.proofs.members.measure_nested_members.Goals as goal

pub returns-clause-reads : goal.returns-clause-reads
returns-clause-reads g c = search rules

pub returns-clause-means : goal.returns-clause-means
returns-clause-means g c =
    let picks = g.P.Place.picks c.args.place.now in
    let place = g.P.Place.grammar c.args.place.now in
    means_length (members picks place) (members_agree place picks (g.met.P.Place.agrees c.args.place.now))
    c.args.bytes.now (all_bytes c.args.bytes.now (λ i. omega (arith, c.type_inv.bytes i))) (canons g.V.Nla.frame)
    (NestFits (canons g.V.Nla.frame) (AllFit g.V.Nla.fits g.V.Nla.frame)) c.at_most_value.result
    (returns-clause-reads g c)
