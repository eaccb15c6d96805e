use Rattle.std.proofs.Common.{◌∙◌, ap}
use Rattle.std.proofs.lemmas.Result.{on_ok_weaker}
use Rattle.nla_wire.specs.Items.{items as read}
use Rattle.shown.specs.Drafts.{with_members}
use Rattle.shown.proofs.Drafts.{object_ended}
use Rattle.frame_shown.specs.Items.{members_of}
use Rattle.frame_shown.specs.Frames.{items_in}
use Rattle.frame_shown.specs.Tables.{lists_in}
use Rattle.frame_shown.proofs.list.show_object.Goals as goal

pub returns : goal.returns
returns g c =
    let its = items_in (g.D.Depth.nest c.args.cx.now) c.args.cx.now c.args.list.now (read c.args.bytes.now) in
    let ms = members_of (lists_in c.args.cx.now c.args.list.now) its in
    on_ok_weaker c.end.result (λ ends. object_ended c.args.name.now ms c.args.page.now _ _
    (c.in_ok-show_members.ensures ∙ ap (with_members ms) c.in_ok-begin.ensures) ends) c.end.ensures
