use Rattle.link_msg.proofs.Telling.{told_are_raw}
use Rattle.link_msg.proofs.laws.law_refusals.Goals as goal

pub returns : goal.returns
returns c = told_are_raw
