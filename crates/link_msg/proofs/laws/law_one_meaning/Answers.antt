use Rattle.link_msg.proofs.LawProofs.{one_message}
use Rattle.link_msg.proofs.laws.law_one_meaning.Goals as goal

pub returns : goal.returns
returns c = one_message
