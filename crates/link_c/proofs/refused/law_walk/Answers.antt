use Rattle.link_c.proofs.Refusals.{walk_tells_all}
use Rattle.link_c.proofs.refused.law_walk.Goals as goal

pub returns : goal.returns
returns c = walk_tells_all
