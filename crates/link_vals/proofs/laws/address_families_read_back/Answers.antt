use Rattle.link_vals.proofs.Numbers.{address_family_again}
use Rattle.link_vals.proofs.laws.address_families_read_back.Goals as goal

pub returns : goal.returns
returns c = address_family_again
