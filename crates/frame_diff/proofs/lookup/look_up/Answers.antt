use Rattle.frame_diff.proofs.There.{found_first, tail_behind}
use Rattle.frame_diff.proofs.lookup.look_up.Goals as goal

pub returns-in-Some-clause-found : goal.returns-in-Some-clause-found
returns-in-Some-clause-found c =
    found_first c.args.number c.args.all.now c.args.there.now c.in-Some.frame c.in-Some.ensures.1.0 c.requires
    c.in-Some.ensures.1.1 c.in-Some.ensures.0

pub returns-in-Some-clause-tail : goal.returns-in-Some-clause-tail
returns-in-Some-clause-tail c =
    tail_behind c.args.all.now c.args.there.now c.behind-next.result.now c.in-Some.frame c.in-Some.ensures.1.0
    c.requires c.in-Some.ensures.1.1 (c.behind-next.ensures c.in-Some.ensures.1.0 c.in-Some.ensures.1.1)
