use Rattle.frame_diff.proofs.Classes.{above_apart, above_fieldless, above_runless}
use Rattle.frame_diff.proofs.depth.AboveWalk.laws.Goals as goal

pub returns-clause-apart : goal.returns-clause-apart
returns-clause-apart g c = above_apart g.W.Depth.nest g.W.Walk.inner c.laws.ensures.apart

pub returns-clause-fieldless : goal.returns-clause-fieldless
returns-clause-fieldless g c = above_fieldless g.W.Depth.nest g.W.Walk.inner

pub returns-clause-runless : goal.returns-clause-runless
returns-clause-runless g c = above_runless g.W.Depth.nest g.W.Walk.inner
