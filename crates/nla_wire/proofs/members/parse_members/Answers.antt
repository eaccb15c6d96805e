use Rattle.std.proofs.Common.{arith}
use Rattle.nla_wire.specs.Grammar.{members}
use Rattle.nla_wire.proofs.Front.{all_bytes}
use Rattle.nla_wire.proofs.Selected.{members_agree}
use Rattle.nla_wire.proofs.Checked.{given_found, given_fault, given_refused}
use Rattle.nla_wire.proofs.members.parse_members.Goals as goal

pub returns-clause-found : goal.returns-clause-found
returns-clause-found g c =
    let picks = g.P.Place.picks c.args.place.now in
    let place = g.P.Place.grammar c.args.place.now in
    let agrees = members_agree place picks (g.met.P.Place.agrees c.args.place.now) in
    let small = all_bytes c.args.bytes.now (λ i. omega (arith, c.type_inv.bytes i)) in
    given_found (members picks place) agrees c.args.bytes.now small (λ v. v.items) c.parse_each.result
    c.parse_each.ensures.reads

pub returns-clause-fault : goal.returns-clause-fault
returns-clause-fault g c =
    let picks = g.P.Place.picks c.args.place.now in
    let place = g.P.Place.grammar c.args.place.now in
    let agrees = members_agree place picks (g.met.P.Place.agrees c.args.place.now) in
    let small = all_bytes c.args.bytes.now (λ i. omega (arith, c.type_inv.bytes i)) in
    given_fault (members picks place) agrees c.args.bytes.now small (λ v. v.items) c.parse_each.result
    c.parse_each.ensures.reads

pub returns-clause-refused : goal.returns-clause-refused
returns-clause-refused g c =
    let picks = g.P.Place.picks c.args.place.now in
    let place = g.P.Place.grammar c.args.place.now in
    let agrees = members_agree place picks (g.met.P.Place.agrees c.args.place.now) in
    let small = all_bytes c.args.bytes.now (λ i. omega (arith, c.type_inv.bytes i)) in
    given_refused (members picks place) agrees c.args.bytes.now small (λ v. v.items) c.parse_each.result
    c.parse_each.ensures.reads
