use Rattle.std.proofs.Common.{arith}
use Rattle.nla_wire.proofs.Front.{all_bytes}
use Rattle.nla_wire.proofs.Loop.{checks_found, checks_fault, checks_refused}
use Rattle.nla_wire.proofs.Checked.{checks_memory}
use Rattle.link_msg.specs.Messages.{message}
use Rattle.link_msg.proofs.Reading.{message_agrees}
use Rattle.link_msg.proofs.Answering.{message_memory}
use Rattle.link_msg.proofs.message.LinkMessage.check.Goals as goal

pub returns-clause-found : goal.returns-clause-found
returns-clause-found c = checks_found message message_agrees c.args.input.now
    (all_bytes c.args.input.now (λ i. omega (arith, c.type_inv.input i))) c.check_input.result c.check_input.ensures

pub returns-clause-fault : goal.returns-clause-fault
returns-clause-fault c = checks_fault message message_agrees c.args.input.now
    (all_bytes c.args.input.now (λ i. omega (arith, c.type_inv.input i))) c.check_input.result c.check_input.ensures

pub returns-clause-refused : goal.returns-clause-refused
returns-clause-refused c = checks_refused message message_agrees c.args.input.now
    (all_bytes c.args.input.now (λ i. omega (arith, c.type_inv.input i))) c.check_input.result c.check_input.ensures

pub returns-clause-memory : goal.returns-clause-memory
returns-clause-memory c = checks_memory message message_agrees c.args.input.now
    (all_bytes c.args.input.now (λ i. omega (arith, c.type_inv.input i))) message_memory
    c.check_input.result c.check_input.ensures
