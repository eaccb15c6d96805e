use Rattle.link_info.proofs.Listed.{list_read_again}
use Rattle.link_info.proofs.laws.law_list_read_again.Goals as goal

pub returns : goal.returns
returns c = list_read_again
