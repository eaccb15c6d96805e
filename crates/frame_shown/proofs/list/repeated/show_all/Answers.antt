use Rattle.std.proofs.Common.{◌≡◌, false, ◌∙◌, ap}
use Rattle.std.specs.List.{flat_map}
use Rattle.std.proofs.lemmas.Result.{on_ok_weaker}
use Rattle.nla_wire.specs.Items.{items as read}
use Rattle.shown.specs.Drafts.{with_members}
use Rattle.frame_shown.specs.Items.{are_any, arrays, earlier_ones, shown_as}
use Rattle.frame_shown.specs.Frames.{items_in}
use Rattle.frame_shown.specs.Tables.{lists_in}
use Rattle.frame_shown.proofs.Items.{all_shown, both_added}
use Rattle.frame_shown.proofs.list.repeated.show_all.Goals as goal

pub returns : goal.returns
returns g c =
    let its = items_in (g.D.Depth.nest c.args.cx.now) c.args.cx.now c.args.list.now (read c.args.bytes.now) in
    let lists = lists_in c.args.cx.now c.args.list.now in
    let none : are_any (earlier_ones its) ≡ false = cc (c.requires.again, c.if-is_any_repeated.false) in
    on_ok_weaker c.show_lists.result (λ is. both_added (flat_map shown_as its) (arrays lists its) c.args.page.now _ _
    c.in_ok-show_named.ensures.shown is ∙ ap (λ ms. with_members ms c.args.page.now) (all_shown lists its none))
    c.show_lists.ensures
