use Rattle.frame_shown.proofs.Tied.{tables_are_these}
use Rattle.frame_shown.proofs.laws.law_tables.Goals as goal

pub returns : goal.returns
returns c = tables_are_these
