use Rattle.std.proofs.Common.{◌∙◌}
use Rattle.frame_diff.specs.Items.{joined}
use Rattle.frame_diff.proofs.Fixed.{old_tells_page}
use Rattle.frame_diff.proofs.list.by_name.tell_turning.Goals as goal

pub returns-then-is_told_of_old : goal.returns-then-is_told_of_old
returns-then-is_told_of_old g c =
    old_tells_page g.W.Depth.nest g.W.Walk.inner c.args.pass.is_state c.args.pass.side
    (joined c.args.path.now c.args.name.now) c.args.own c.args.beside c.args.page.now c.requires.row
    (c.is_told_of_old.ensures ∙ c.if-is_told_of_old.true)
