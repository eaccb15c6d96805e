use Rattle.link_msg.proofs.LawProofs.{joined}
use Rattle.link_msg.proofs.laws.law_joined.Goals as goal

pub returns : goal.returns
returns c = joined
