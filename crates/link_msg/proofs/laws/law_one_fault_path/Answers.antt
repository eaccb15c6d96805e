use Rattle.link_msg.proofs.OneAnswer.{one_path, path_of_fault}
use Rattle.link_msg.proofs.laws.law_one_fault_path.Goals as goal

pub returns-clause-path : goal.returns-clause-path
returns-clause-path c = one_path

pub returns-clause-fault : goal.returns-clause-fault
returns-clause-fault c = path_of_fault
