use Rattle.frame_diff.proofs.Written.{written_is}
use Rattle.frame_diff.proofs.laws.law_written.Goals as goal

pub returns : goal.returns
returns c = written_is
