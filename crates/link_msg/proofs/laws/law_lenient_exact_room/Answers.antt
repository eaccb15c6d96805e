use Rattle.std.proofs.Common.{length, ap, arith}
use Rattle.link_msg.specs.Messages.{message_text}
use Rattle.link_msg.specs.declared.message.LinkMessage.{LinkMessage}
use Rattle.link_msg.proofs.Leniently.{one_lenient}
use Rattle.link_msg.proofs.laws.law_lenient_exact_room.Goals as goal

pub returns : goal.returns
returns c = λ m accepted.
    let same = one_lenient c.args.input.now m c.requires.0 accepted.means c.requires.1.means in
    omega (arith, ap (λ (x : LinkMessage). length (message_text x)) same, c.requires.2)
