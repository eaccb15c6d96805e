use Rattle.std.proofs.Common.{arith}
use Rattle.nla_wire.proofs.Front.{all_bytes}
use Rattle.link_msg.proofs.Telling.{all_refusals}
use Rattle.link_msg.proofs.message.LinkMessage.refusals.Goals as goal

pub returns-clause-exact : goal.returns-clause-exact
returns-clause-exact c =
    all_refusals c.args.input.now c.in_ok-header.ensures.0
    (all_bytes c.args.input.now (λ i. omega (arith, c.type_inv.input i))) c.in_ok-header.header
    c.in_ok-header.ensures.1 c.refusals_at.result c.refusals_at.ensures
