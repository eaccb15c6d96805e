use Rattle.std.proofs.Common.{refl}
use Rattle.line_filter.proofs.Blocks.{joined, splat_is, with_splat, itself, chosen, digits_spelled}
use Rattle.line_filter.proofs.lanes.digits_of.Goals as goal

pub returns : goal.returns
returns c =
    let v = c.args.values in
    let long = c.fits-values.0 in
    digits_spelled v _ _ long
    (joined _ _ _ v (chosen _ _ _ v (with_splat _ v 16 10 long) (splat_is v 16 48 long) (splat_is v 16 87 long))
    (itself v))
    c.requires refl
