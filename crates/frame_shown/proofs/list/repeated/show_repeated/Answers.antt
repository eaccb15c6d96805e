use Rattle.std.proofs.Common.{◌++◌, ◌∙◌, ap, map}
use Rattle.std.specs.Prelude.{codes}
use Rattle.std.proofs.lemmas.Result.{on_ok_weaker}
use Rattle.nla_wire.specs.Items.{items as read}
use Rattle.shown.specs.Drafts.{with_members, object_of}
use Rattle.frame_shown.specs.Items.{arrays, earlier_ones, last_ones, list_under, objects}
use Rattle.frame_shown.specs.Frames.{items_in}
use Rattle.frame_shown.specs.Tables.{lists_in}
use Rattle.frame_shown.proofs.Items.{objects_shown, both_added}
use Rattle.frame_shown.proofs.list.repeated.show_repeated.Goals as goal

pub returns : goal.returns
returns g c =
    let its = items_in (g.D.Depth.nest c.args.cx.now) c.args.cx.now c.args.list.now (read c.args.bytes.now) in
    let lists = lists_in c.args.cx.now c.args.list.now in
    let repeated = list_under (codes "repeated") (map object_of (earlier_ones its)) in
    on_ok_weaker c.end.result (λ ends. both_added (last_ones its ++ arrays lists its) repeated c.args.page.now _ _
    (both_added (last_ones its) (arrays lists its) c.args.page.now _ _ c.in_ok-show_last.ensures
    c.in_ok-show_lists.ensures)
    (objects_shown (codes "repeated") (earlier_ones its) c.show_lists.new.page _ _ c.requires.again
    (c.in_ok-show_earlier.ensures ∙ ap (with_members (objects (earlier_ones its))) c.in_ok-begin.ensures) ends))
    c.end.ensures
