use Rattle.std.proofs.Common.{sym, ◌∙◌}
use Rattle.link_msg.specs.contracts.message.LinkMessageExact.TheImpl.Laws.{decides-law as message_exact}
use Rattle.link_msg.proofs.ReadAgain.{read_again, not_read_again}
use Rattle.link_msg.proofs.message.LinkMessage.reads_back.Goals as goal

pub returns-in-Ok : goal.returns-in-Ok
returns-in-Ok c =
    let decided = message_exact c.in-Ok.read c.args.self.now in
    read_again c.as_slice.result.now c.args.self.now c.in-Ok.read c.eq.result c.in-Some.ensures.0
    (c.as_slice.ensures.value ∙ c.in_ok-encoding.ensures) c.in-Ok.ensures.means
    (λ e. decided.0 (sym c.eq.ensures ∙ e), λ e. c.eq.ensures ∙ decided.1 e)

pub returns : goal.returns
returns c = not_read_again c.as_slice.result.now c.args.self.now (c.as_slice.ensures.value ∙ c.in_ok-encoding.ensures)
    (c.in-Err.ensures.refused c.in_default-cause.not-OutOfMemory)
