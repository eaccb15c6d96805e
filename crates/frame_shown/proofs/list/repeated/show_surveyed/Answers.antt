use Rattle.std.proofs.Common.{◌++◌, map}
use Rattle.std.specs.Prelude.{codes}
use Rattle.std.proofs.lemmas.Result.{on_ok_weaker}
use Rattle.nla_wire.specs.Items.{items as read}
use Rattle.shown.specs.Drafts.{object_of}
use Rattle.frame_shown.specs.Items.{arrays, earlier_ones, kept_ones, last_ones, list_under}
use Rattle.frame_shown.specs.Frames.{items_in}
use Rattle.frame_shown.specs.Tables.{lists_in}
use Rattle.frame_shown.proofs.Items.{both_added}
use Rattle.frame_shown.proofs.list.repeated.show_surveyed.Goals as goal

pub returns : goal.returns
returns g c =
    let its = items_in (g.D.Depth.nest c.args.cx.now) c.args.cx.now c.args.list.now (read c.args.bytes.now) in
    let lists = lists_in c.args.cx.now c.args.list.now in
    let repeated = list_under (codes "repeated") (map object_of (earlier_ones its)) in
    let others = list_under (codes "other") (map object_of (kept_ones its)) in
    on_ok_weaker c.show_others.result (λ is. both_added (last_ones its ++ arrays lists its ++ repeated) others
    c.args.page.now _ _ c.in_ok-show_all.ensures is) c.show_others.ensures
