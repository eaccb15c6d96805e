use Rattle.std.proofs.Common.{◌≡◌, ◌+◌, ◌<◌, ◌^◌, drop}
use Rattle.link_vals.specs.LinkExtentMaskTable.{ext_sum}
use Rattle.link_vals.proofs.ext_mask.LinkExtentMask.sum_fits.Given as goal

abbrev pub invariant-loop-flag : goal.invariant-loop-flag
invariant-loop-flag l = (l.total + ext_sum (drop l.flag-index l.list) ≡ ext_sum l.list) × (l.total < 2 ^ 32)
