use Rattle.link_info.proofs.Styles.{read_again}
use Rattle.link_info.proofs.laws.law_read_again.Goals as goal

pub returns : goal.returns
returns c = read_again
