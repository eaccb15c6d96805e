use Rattle.frame_diff.proofs.Shown.{members_are}
use Rattle.frame_diff.proofs.laws.law_shown.Goals as goal

pub returns : goal.returns
returns c = members_are
