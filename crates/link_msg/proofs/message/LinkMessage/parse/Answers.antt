use Rattle.std.proofs.Common.{arith}
use Rattle.nla_wire.proofs.Front.{all_bytes}
use Rattle.nla_wire.proofs.Loop.{gives_found, gives_fault, gives_refused}
use Rattle.link_msg.specs.Messages.{message}
use Rattle.link_msg.proofs.Reading.{message_agrees}
use Rattle.link_msg.proofs.Answering.{gives_bounded}
use Rattle.link_msg.proofs.message.LinkMessage.parse.Goals as goal

pub returns-clause-means : goal.returns-clause-means
returns-clause-means c = gives_found message message_agrees c.args.input.now
    (all_bytes c.args.input.now (λ i. omega (arith, c.type_inv.input i))) c.parse_input.result c.parse_input.ensures

pub returns-clause-bounds : goal.returns-clause-bounds
returns-clause-bounds c = gives_bounded c.args.input.now c.parse_input.result
    (all_bytes c.args.input.now (λ i. omega (arith, c.type_inv.input i))) c.parse_input.ensures

pub returns-clause-fault : goal.returns-clause-fault
returns-clause-fault c = gives_fault message message_agrees c.args.input.now
    (all_bytes c.args.input.now (λ i. omega (arith, c.type_inv.input i))) c.parse_input.result c.parse_input.ensures

pub returns-clause-refused : goal.returns-clause-refused
returns-clause-refused c = gives_refused message message_agrees c.args.input.now
    (all_bytes c.args.input.now (λ i. omega (arith, c.type_inv.input i))) c.parse_input.result c.parse_input.ensures
