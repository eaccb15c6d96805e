use Rattle.std.proofs.Common.{◌≡◌, true, ◌∙◌, ap}
use Rattle.std.specs.Prelude.{codes}
use Rattle.std.proofs.lemmas.Result.{on_ok_weaker}
use Rattle.nla_wire.specs.Items.{items as read}
use Rattle.shown.specs.Drafts.{with_members}
use Rattle.frame_shown.specs.Items.{are_any, kept_ones, objects}
use Rattle.frame_shown.specs.Frames.{items_in}
use Rattle.frame_shown.proofs.Items.{objects_shown}
use Rattle.frame_shown.proofs.list.left.show_some.Goals as goal

pub returns : goal.returns
returns g c =
    let its = items_in (g.D.Depth.nest c.args.cx.now) c.args.cx.now c.args.list.now (read c.args.bytes.now) in
    let any : are_any (kept_ones its) ≡ true = c.requires in
    on_ok_weaker c.end.result (λ ends. objects_shown (codes "other") (kept_ones its) c.args.page.now _ _ any
    (c.in_ok-show_kept_frames.ensures ∙ ap (with_members (objects (kept_ones its))) c.in_ok-begin.ensures) ends)
    c.end.ensures
