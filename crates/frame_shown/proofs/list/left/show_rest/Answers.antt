use Rattle.std.proofs.Common.{◌∙◌, ap, map}
use Rattle.std.specs.Prelude.{codes}
use Rattle.std.proofs.lemmas.Result.{on_ok_weaker}
use Rattle.nla_wire.specs.Items.{items as read}
use Rattle.shown.specs.Drafts.{object_of, with_members}
use Rattle.frame_shown.specs.Items.{kept_ones, list_under}
use Rattle.frame_shown.specs.Frames.{items_in}
use Rattle.frame_shown.proofs.list.left.show_rest.Goals as goal

pub returns : goal.returns
returns g c =
    let its = items_in (g.D.Depth.nest c.args.cx.now) c.args.cx.now c.args.list.now (read c.args.bytes.now) in
    let others = list_under (codes "other") (map object_of (kept_ones its)) in
    on_ok_weaker c.show_others.result (λ is. is ∙ ap (with_members others) c.in_ok-show_lists.ensures)
    c.show_others.ensures
