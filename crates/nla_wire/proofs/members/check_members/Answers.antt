use Rattle.std.proofs.Common.{arith}
use Rattle.nla_wire.specs.Grammar.{members}
use Rattle.nla_wire.proofs.Front.{all_bytes}
use Rattle.nla_wire.proofs.Selected.{members_agree, memory_members}
use Rattle.nla_wire.proofs.Loop.{checks_found, checks_fault, checks_refused}
use Rattle.nla_wire.proofs.Checked.{checks_memory}
use Rattle.nla_wire.proofs.members.check_members.Goals as goal

pub returns-clause-found : goal.returns-clause-found
returns-clause-found g c =
    let picks = g.P.Place.picks c.args.place.now in
    let place = g.P.Place.grammar c.args.place.now in
    let agrees = members_agree place picks (g.met.P.Place.agrees c.args.place.now) in
    let small = all_bytes c.args.bytes.now (λ i. omega (arith, c.type_inv.bytes i)) in
    checks_found (members picks place) agrees c.args.bytes.now small c.check_each.result c.check_each.ensures

pub returns-clause-fault : goal.returns-clause-fault
returns-clause-fault g c =
    let picks = g.P.Place.picks c.args.place.now in
    let place = g.P.Place.grammar c.args.place.now in
    let agrees = members_agree place picks (g.met.P.Place.agrees c.args.place.now) in
    let small = all_bytes c.args.bytes.now (λ i. omega (arith, c.type_inv.bytes i)) in
    checks_fault (members picks place) agrees c.args.bytes.now small c.check_each.result c.check_each.ensures

pub returns-clause-refused : goal.returns-clause-refused
returns-clause-refused g c =
    let picks = g.P.Place.picks c.args.place.now in
    let place = g.P.Place.grammar c.args.place.now in
    let agrees = members_agree place picks (g.met.P.Place.agrees c.args.place.now) in
    let small = all_bytes c.args.bytes.now (λ i. omega (arith, c.type_inv.bytes i)) in
    checks_refused (members picks place) agrees c.args.bytes.now small c.check_each.result c.check_each.ensures

pub returns-clause-memory : goal.returns-clause-memory
returns-clause-memory g c =
    let picks = g.P.Place.picks c.args.place.now in
    let place = g.P.Place.grammar c.args.place.now in
    let agrees = members_agree place picks (g.met.P.Place.agrees c.args.place.now) in
    let small = all_bytes c.args.bytes.now (λ i. omega (arith, c.type_inv.bytes i)) in
    checks_memory (members picks place) agrees c.args.bytes.now small
    (memory_members place picks (g.met.P.Place.no_memory c.args.place.now)) c.check_each.result c.check_each.ensures
