-- The lines of one host are taken apart.
use Rattle.told_laws.proofs.Apart.{apart}
use Rattle.told_laws.proofs.law_apart.Goals as goal

pub returns : goal.returns
returns c = apart
