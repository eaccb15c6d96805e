use Rattle.link_vals.proofs.Numbers.{link_mode_again}
use Rattle.link_vals.proofs.laws.link_modes_read_back.Goals as goal

pub returns : goal.returns
returns c = link_mode_again
