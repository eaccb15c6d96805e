use Rattle.link_vals.proofs.Numbers.{in6_addr_gen_mode_again}
use Rattle.link_vals.proofs.laws.addr_gen_modes_read_back.Goals as goal

pub returns : goal.returns
returns c = in6_addr_gen_mode_again
