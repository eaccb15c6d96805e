use Rattle.link_vals.proofs.Numbers.{xdp_attached_again}
use Rattle.link_vals.proofs.laws.xdp_attached_read_back.Goals as goal

pub returns : goal.returns
returns c = xdp_attached_again
