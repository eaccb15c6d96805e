-- Line after line.
use Rattle.told_laws.proofs.Fewer.{fewer_lines}
use Rattle.told_laws.proofs.law_fewer_lines.Goals as goal

pub returns : goal.returns
returns c = fewer_lines
