use Rattle.frame_diff.proofs.Silent.{same_silent}
use Rattle.frame_diff.proofs.laws.law_silent.Goals as goal

pub returns : goal.returns
returns c = same_silent
