use Rattle.link_info.proofs.Styles.{each_as_alone}
use Rattle.link_info.proofs.laws.law_each.Goals as goal

pub returns : goal.returns
returns c = each_as_alone
