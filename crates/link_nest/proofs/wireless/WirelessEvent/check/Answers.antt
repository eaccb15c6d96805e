use Rattle.std.proofs.Common.{arith}
use Rattle.nla_wire.proofs.Agreement.{sized_agrees}
use Rattle.nla_wire.proofs.Front.{all_bytes}
use Rattle.nla_wire.proofs.Memory.{memory_sized}
use Rattle.nla_wire.proofs.Loop.{checks_found, checks_fault, checks_refused}
use Rattle.nla_wire.proofs.Checked.{checks_memory}
use Rattle.link_nest.specs.Wireless.{wireless_of, wireless_event}
use Rattle.link_nest.proofs.wireless.WirelessEvent.check.Goals as goal

pub returns-clause-found : goal.returns-clause-found
returns-clause-found c = checks_found wireless_event (sized_agrees 8 wireless_of) c.args.payload.now
    (all_bytes c.args.payload.now (λ i. omega (arith, c.type_inv.payload i))) c.check_len.result c.check_len.ensures

pub returns-clause-fault : goal.returns-clause-fault
returns-clause-fault c = checks_fault wireless_event (sized_agrees 8 wireless_of) c.args.payload.now
    (all_bytes c.args.payload.now (λ i. omega (arith, c.type_inv.payload i))) c.check_len.result c.check_len.ensures

pub returns-clause-refused : goal.returns-clause-refused
returns-clause-refused c = checks_refused wireless_event (sized_agrees 8 wireless_of) c.args.payload.now
    (all_bytes c.args.payload.now (λ i. omega (arith, c.type_inv.payload i))) c.check_len.result c.check_len.ensures

pub returns-clause-memory : goal.returns-clause-memory
returns-clause-memory c = checks_memory wireless_event (sized_agrees 8 wireless_of) c.args.payload.now
    (all_bytes c.args.payload.now (λ i. omega (arith, c.type_inv.payload i)))
    (memory_sized 8 wireless_of) c.check_len.result c.check_len.ensures
