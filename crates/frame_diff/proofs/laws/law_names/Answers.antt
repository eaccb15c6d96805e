use Rattle.frame_diff.proofs.Names.{names_apart}
use Rattle.frame_diff.proofs.laws.law_names.Goals as goal

pub returns : goal.returns
returns c = names_apart
