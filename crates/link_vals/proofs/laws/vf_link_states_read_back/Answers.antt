use Rattle.link_vals.proofs.Numbers.{vf_link_state_again}
use Rattle.link_vals.proofs.laws.vf_link_states_read_back.Goals as goal

pub returns : goal.returns
returns c = vf_link_state_again
