use Rattle.std.proofs.Common.{arith}
use Rattle.link_vlans.proofs.Say.{none_before}
use Rattle.link_vlans.proofs.pieces.reach.Goals as goal

pub returns-then-vid-into-clause-same : goal.returns-then-vid-into-clause-same
returns-then-vid-into-clause-same c = λ n low high.
    none_before c.args.runs.now c.in-Some.run'.now c.in-Some.ensures.value c.requires.apart n (omega arith)
