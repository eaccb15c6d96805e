use Rattle.link_vals.proofs.Numbers.{mctp_phys_binding_again}
use Rattle.link_vals.proofs.laws.mctp_phys_bindings_read_back.Goals as goal

pub returns : goal.returns
returns c = mctp_phys_binding_again
