-- How long the records are that are filled up with zeros.
use Rattle.std.proofs.Common.{refl, lit≤}
use Rattle.link_recs.specs.Filled.{NoneIsLonger, OneIsAsLong}

pub none_is_longer : NoneIsLonger
none_is_longer = (lit≤ tt, (lit≤ tt, (lit≤ tt, (lit≤ tt, (lit≤ tt, (lit≤ tt, tt))))))

pub one_is_as_long : OneIsAsLong
one_is_as_long = refl
