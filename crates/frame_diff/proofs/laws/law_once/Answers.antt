use Rattle.frame_diff.proofs.Once.{each_once}
use Rattle.frame_diff.proofs.laws.law_once.Goals as goal

pub returns : goal.returns
returns c = each_once
