use Rattle.link_msg.proofs.OneAnswer.{one_answer, fault_once, fault_or_meaning}
use Rattle.link_msg.proofs.laws.law_one_answer.Goals as goal

pub returns-clause-answer : goal.returns-clause-answer
returns-clause-answer c = one_answer

pub returns-clause-fault : goal.returns-clause-fault
returns-clause-fault c = fault_once

pub returns-clause-meaning : goal.returns-clause-meaning
returns-clause-meaning c = fault_or_meaning
