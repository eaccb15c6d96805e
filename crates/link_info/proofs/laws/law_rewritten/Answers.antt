use Rattle.link_info.proofs.Listed.{rewritten_as_it_was}
use Rattle.link_info.proofs.laws.law_rewritten.Goals as goal

pub returns : goal.returns
returns c = rewritten_as_it_was
