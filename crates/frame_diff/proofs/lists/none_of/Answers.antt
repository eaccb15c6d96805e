use Rattle.nla_wire.proofs.Items.{items_nil}
use Rattle.frame_diff.proofs.lists.none_of.Goals as goal

pub returns-clause-bytes : goal.returns-clause-bytes
returns-clause-bytes c = items_nil
