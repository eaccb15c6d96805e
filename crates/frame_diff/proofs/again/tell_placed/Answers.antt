use Rattle.frame_diff.proofs.Repeated.{again_silent}
use Rattle.frame_diff.proofs.again.tell_placed.Goals as goal

pub returns-then-is_same_again : goal.returns-then-is_same_again
returns-then-is_same_again g c =
    again_silent g.W.Depth.nest g.W.Walk.inner c.laws.ensures.apart c.args.pass.is_state c.args.pass.side
    c.args.path.now c.args.place c.args.others c.args.own c.args.beside c.args.page.now
    (c.requires.rows c.if-pass.true) c.requires.beside (c.is_same_again.ensures c.if-is_same_again.true)
