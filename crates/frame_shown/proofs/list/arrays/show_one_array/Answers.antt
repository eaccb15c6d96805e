use Rattle.std.proofs.Common.{◌∙◌, ap}
use Rattle.std.proofs.lemmas.Result.{on_ok_weaker}
use Rattle.nla_wire.specs.Items.{items as read}
use Rattle.shown.specs.Drafts.{list_of, with_members, with_value}
use Rattle.shown.proofs.Drafts.{list_ended}
use Rattle.frame_shown.specs.Frames.{items_in}
use Rattle.frame_shown.specs.Items.{elements, values_with}
use Rattle.frame_shown.proofs.Items.{elements_values}
use Rattle.frame_shown.proofs.list.arrays.show_one_array.Goals as goal

pub returns : goal.returns
returns g c =
    let vs = values_with c.args.number
    (items_in (g.D.Depth.nest c.args.cx.now) c.args.cx.now c.args.list.now (read c.args.bytes.now)) in
    on_ok_weaker c.end.result (λ ends. list_ended c.args.name.now (elements vs) c.args.page.now _ _
    (c.in_ok-show_each.ensures ∙ ap (with_members (elements vs)) c.in_ok-begin.ensures) ends
    ∙ ap (λ tokens. with_value c.args.name.now (list_of tokens) c.args.page.now) (elements_values vs)) c.end.ensures
