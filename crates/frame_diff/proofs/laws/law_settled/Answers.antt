use Rattle.frame_diff.proofs.Still.{wholes_still}
use Rattle.frame_diff.proofs.laws.law_settled.Goals as goal

pub returns : goal.returns
returns c = wholes_still
