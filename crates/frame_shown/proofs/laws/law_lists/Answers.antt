use Rattle.frame_shown.proofs.ListsTold.{lists_are_these}
use Rattle.frame_shown.proofs.laws.law_lists.Goals as goal

pub returns : goal.returns
returns c = lists_are_these
