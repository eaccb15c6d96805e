use Rattle.link_vals.proofs.Numbers.{state_again}
use Rattle.link_vals.proofs.laws.states_read_back.Goals as goal

pub returns : goal.returns
returns c = state_again
