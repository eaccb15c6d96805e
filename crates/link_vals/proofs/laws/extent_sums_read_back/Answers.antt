use Rattle.link_vals.proofs.ExtentSums.{sums_back}
use Rattle.link_vals.proofs.laws.extent_sums_read_back.Goals as goal

pub returns : goal.returns
returns c = sums_back
