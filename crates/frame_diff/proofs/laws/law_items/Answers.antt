use Rattle.frame_diff.proofs.Items.{items_are}
use Rattle.frame_diff.proofs.laws.law_items.Goals as goal

pub returns : goal.returns
returns c = items_are
