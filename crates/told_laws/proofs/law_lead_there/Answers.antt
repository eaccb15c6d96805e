-- Change after change.
use Rattle.told_laws.proofs.Leading.{lead_there}
use Rattle.told_laws.proofs.law_lead_there.Goals as goal

pub returns : goal.returns
returns c = lead_there
