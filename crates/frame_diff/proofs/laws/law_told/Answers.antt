use Rattle.frame_diff.proofs.Leaves.{all_told}
use Rattle.frame_diff.proofs.laws.law_told.Goals as goal

pub returns : goal.returns
returns c = all_told
