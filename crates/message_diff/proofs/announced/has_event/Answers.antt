use Rattle.std.proofs.Common.{◌≡◌, ◌∙◌, false, arith, rules}
use Rattle.message_diff.proofs.Events.{none_there}
use Rattle.message_diff.proofs.announced.has_event.Goals as goal

pub returns-else-is_some : goal.returns-else-is_some
returns-else-is_some c =
    let none : c.is_some.result ≡ false = (search rules) in
    none ∙ none_there c.args.message.now c.memchr.result (λ i. omega (arith, c.type_inv.message i)) c.memchr.ensures
    (search rules)
