use Rattle.std.proofs.Common.{arith, length}
use Rattle.nla_wire.specs.Grammar.{members}
use Rattle.nla_wire.specs.Canon.{canon, canons, AllFit}
use Rattle.nla_wire.proofs.Front.{all_bytes}
use Rattle.nla_wire.proofs.Meant.{means_written}
use Rattle.nla_wire.proofs.Selected.{members_agree}
use Rattle.nla_wire.proofs.Written.{nest, nested_room, nested_written}
use Rattle.nla_wire.proofs.members.write_nested_members.Goals as goal

pub returns-clause-reads : goal.returns-clause-reads
returns-clause-reads g c =
    let picks = g.P.Place.picks c.args.place.now in
    let reads = (members picks (g.P.Place.grammar c.args.place.now)).reads c.args.bytes.now in
    nested_written (canons g.V.Nla.frame) c.args.kind
    reads c.args.out.now c.write_members-len.new.out c.write_members-len.result c.finish.new.out c.finish.result
    (nested_room (canons g.V.Nla.frame) (AllFit g.V.Nla.fits g.V.Nla.frame) c.args.kind reads
    (length c.args.out.now) c.requires).1 c.write_members-len.ensures.reads c.finish.ensures

pub returns-clause-means : goal.returns-clause-means
returns-clause-means g c =
    let picks = g.P.Place.picks c.args.place.now in
    let place = g.P.Place.grammar c.args.place.now in
    means_written (members picks place) (members_agree place picks (g.met.P.Place.agrees c.args.place.now))
    c.args.bytes.now (all_bytes c.args.bytes.now (λ i. omega (arith, c.type_inv.bytes i)))
    (λ vs. canon (nest (canons g.V.Nla.frame) c.args.kind vs)) c.args.out.now c.finish.new.out c.finish.result
    (returns-clause-reads g c)
