use Rattle.frame_diff.proofs.Whole.{whole_shown}
use Rattle.frame_diff.proofs.laws.law_whole.Goals as goal

pub returns : goal.returns
returns c = whole_shown
