use Rattle.std.proofs.Common.{arith}
use Rattle.nla_wire.proofs.Front.{all_bytes}
use Rattle.nla_wire.proofs.Loop.{gives_found, gives_refused}
use Rattle.link_msg.specs.Lenient.{lenient_place, message_by}
use Rattle.link_msg.specs.LenientTable.{lenient_lawful}
use Rattle.link_msg.proofs.MessagesBy.{agrees_by, gives_bounded_by}
use Rattle.link_msg.proofs.Leniently.{lenient_fault}
use Rattle.link_msg.proofs.message.LinkMessage.parse_lenient.Goals as goal

pub returns-clause-means : goal.returns-clause-means
returns-clause-means c = gives_found (message_by lenient_place) (agrees_by lenient_place lenient_lawful)
    c.args.input.now (all_bytes c.args.input.now (λ i. omega (arith, c.type_inv.input i))) c.parse_each.result
    c.parse_each.ensures

pub returns-clause-bounds : goal.returns-clause-bounds
returns-clause-bounds c = gives_bounded_by lenient_place lenient_lawful c.args.input.now c.parse_each.result
    (all_bytes c.args.input.now (λ i. omega (arith, c.type_inv.input i))) c.parse_each.ensures

pub returns-clause-fault : goal.returns-clause-fault
returns-clause-fault c = lenient_fault c.args.input.now
    (all_bytes c.args.input.now (λ i. omega (arith, c.type_inv.input i))) c.parse_each.result c.parse_each.ensures

pub returns-clause-refused : goal.returns-clause-refused
returns-clause-refused c = gives_refused (message_by lenient_place) (agrees_by lenient_place lenient_lawful)
    c.args.input.now (all_bytes c.args.input.now (λ i. omega (arith, c.type_inv.input i))) c.parse_each.result
    c.parse_each.ensures
