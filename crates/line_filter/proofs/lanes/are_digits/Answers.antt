use Rattle.std.proofs.Common.{leb, cond, refl}
use Rattle.line_filter.proofs.Blocks.{splat_with, are_below_16}
use Rattle.line_filter.proofs.lanes.are_digits.Goals as goal

pub returns : goal.returns
returns c =
    let v = c.args.values in
    are_below_16 v _ _ c.fits-values.0 c.fits-values.1
    (splat_with (λ a b. cond (leb a b) 255 0) v 32 16 c.fits-values.0) refl
