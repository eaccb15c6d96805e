use Rattle.link_vals.proofs.Numbers.{link_extent_mask_again}
use Rattle.link_vals.proofs.laws.extent_masks_read_back.Goals as goal

pub returns : goal.returns
returns c = link_extent_mask_again
