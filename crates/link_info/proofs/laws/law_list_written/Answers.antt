use Rattle.link_info.proofs.Listed.{list_as_it_was}
use Rattle.link_info.proofs.laws.law_list_written.Goals as goal

pub returns : goal.returns
returns c = list_as_it_was
