-- Line after line.
use Rattle.told_laws.proofs.Orderly.{orderly}
use Rattle.told_laws.proofs.law_orderly.Goals as goal

pub returns : goal.returns
returns c = orderly
