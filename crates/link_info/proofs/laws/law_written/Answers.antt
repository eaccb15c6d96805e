use Rattle.link_info.proofs.Styles.{written_as_it_was}
use Rattle.link_info.proofs.laws.law_written.Goals as goal

pub returns : goal.returns
returns c = written_as_it_was
