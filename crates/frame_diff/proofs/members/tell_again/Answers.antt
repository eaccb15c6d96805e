use Rattle.std.proofs.Common.{ap, codes, sym}
use Rattle.shown.specs.Drafts.{with_members}
use Rattle.frame_shown.specs.Items.{objects}
use Rattle.frame_diff.specs.Items.{items_told, joined}
use Rattle.frame_diff.specs.Members.{places}
use Rattle.frame_diff.specs.Repeated.{earlier_at}
use Rattle.frame_diff.proofs.There.{none_again}
use Rattle.frame_diff.proofs.members.tell_again.Goals as goal

pub returns-then-is_single : goal.returns-then-is_single
returns-then-is_single g c =
    let nest = g.W.Depth.nest in
    let inner = g.W.Walk.inner in
    let is_state = c.args.pass.is_state in
    sym (ap (λ hs. with_members (objects (items_told c.args.pass.side (joined c.args.path.now (codes "repeated"))
    (places hs) (places (earlier_at nest inner is_state c.args.others)))) c.args.page.now)
    (none_again nest inner is_state c.args.own c.requires.names (c.requires.single c.if-is_single.true)))
