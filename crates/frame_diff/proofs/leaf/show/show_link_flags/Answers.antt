use Rattle.frame_shown.specs.Messages.{link_flag_names}
use Rattle.frame_diff.proofs.leaf.show.show_link_flags.Goals as goal

pub returns : goal.returns
unfolding link_flag_names
returns c = c.flags.ensures
