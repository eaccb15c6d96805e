use Rattle.frame_diff.specs.Vlans.{vlan_flag_names}
use Rattle.frame_diff.proofs.leaf.show.show_vlan_flags.Goals as goal

pub returns : goal.returns
unfolding vlan_flag_names
returns c = c.flags.ensures
