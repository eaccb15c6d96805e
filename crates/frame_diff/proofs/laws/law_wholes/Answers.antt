use Rattle.frame_diff.proofs.WholesTold.{wholes_leaves}
use Rattle.frame_diff.proofs.laws.law_wholes.Goals as goal

pub returns : goal.returns
returns c = wholes_leaves
