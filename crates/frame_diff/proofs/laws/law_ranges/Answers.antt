use Rattle.frame_diff.proofs.RangesTold.{ranges_are}
use Rattle.frame_diff.proofs.laws.law_ranges.Goals as goal

pub returns : goal.returns
returns c = ranges_are
