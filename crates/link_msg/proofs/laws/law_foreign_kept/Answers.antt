use Rattle.link_msg.specs.Tables.{foreign_kept}
use Rattle.link_msg.proofs.laws.law_foreign_kept.Goals as goal

pub returns : goal.returns
returns c = foreign_kept
