use Rattle.std.proofs.Common.{refl}
use Rattle.line_filter.proofs.Blocks.{joined, splat_is, with_splat, chosen, values_read}
use Rattle.line_filter.proofs.lanes.values_of.Goals as goal

pub returns : goal.returns
returns c =
    let v = c.args.digits in
    let long = c.fits-digits.0 in
    let ten = splat_is v 32 10 long in
    values_read v _ _ long c.fits-digits.1
    (chosen _ _ _ v (joined _ _ _ v (with_splat _ v 32 48 long) ten) (with_splat _ v 32 48 long)
    (chosen _ _ _ v
    (joined _ _ _ v (joined _ _ _ v (with_splat _ v 32 32 long) (splat_is v 32 97 long)) (splat_is v 32 6 long))
    (joined _ _ _ v (joined _ _ _ v (with_splat _ v 32 32 long) (splat_is v 32 97 long)) ten)
    (splat_is v 32 255 long)))
    refl
