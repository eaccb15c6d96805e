-- One dump behind the other, and each as a file.
use Rattle.told_laws.proofs.TwoWays.{two_ways}
use Rattle.told_laws.proofs.law_two_ways.Goals as goal

pub returns : goal.returns
returns c = two_ways
