use Rattle.std.proofs.Common.{codes}
use Rattle.std.proofs.lemmas.Result.{on_ok_weaker}
use Rattle.frame_diff.specs.Groups.{rest_forest}
use Rattle.frame_diff.specs.Inside.{above, inside_list}
use Rattle.frame_diff.specs.Items.{items_told, joined}
use Rattle.frame_diff.specs.Keyed.{others_items}
use Rattle.frame_diff.specs.Values.{kept_at, kept_inside_at}
use Rattle.frame_diff.proofs.Grouped.{kept_runless, kept_told}
use Rattle.frame_diff.proofs.Inside.{same_written}
use Rattle.frame_diff.proofs.lists.tell_rest.Goals as goal

pub returns : goal.returns
returns g c =
    let nest = g.W.Depth.nest in
    let inner = g.W.Walk.inner in
    let is_state = c.args.pass.is_state in
    let side = c.args.pass.side in
    let text = c.args.path.now in
    let hs = kept_at is_state c.args.own in
    let gs = kept_at is_state c.listed_beside-others.result in
    let inside = kept_inside_at is_state c.args.own in
    let other = kept_inside_at is_state c.listed_beside-others.result in
    let beside = inside_list (above nest inner) is_state c.args.beside in
    on_ok_weaker c.tell_others.result (same_written
    (others_items side (joined text (codes "other")) is_state c.args.own c.listed_beside-others.result)
    (items_told side text (rest_forest is_state c.args.own) beside) c.args.page.now c.tell_others.new.page
    (kept_told side text hs gs inside other beside (kept_runless is_state c.args.own)
    (kept_runless is_state c.listed_beside-others.result) (c.listed_beside-others.ensures nest inner is_state)))
    c.tell_others.ensures
