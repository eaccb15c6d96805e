-- Host after host.
use Rattle.told_laws.proofs.Whole.{whole_runs}
use Rattle.told_laws.proofs.law_whole_runs.Goals as goal

pub returns : goal.returns
returns c = whole_runs
