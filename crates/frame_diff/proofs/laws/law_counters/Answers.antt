use Rattle.frame_diff.proofs.Messages.{counters_passed}
use Rattle.frame_diff.proofs.laws.law_counters.Goals as goal

pub returns : goal.returns
returns c = counters_passed
