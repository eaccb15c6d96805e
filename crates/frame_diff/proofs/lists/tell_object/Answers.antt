use Rattle.std.proofs.Common.{Some}
use Rattle.std.proofs.lemmas.Result.{on_ok_weaker}
use Rattle.frame_diff.specs.Forests.{forest}
use Rattle.frame_diff.specs.Inside.{above, inside_list}
use Rattle.frame_diff.specs.Items.{items_told}
use Rattle.frame_diff.specs.Repeated.{members_at}
use Rattle.frame_diff.proofs.Classes.{object_told}
use Rattle.frame_diff.proofs.Inside.{same_written}
use Rattle.frame_diff.proofs.lists.tell_object.Goals as goal

pub returns : goal.returns
returns g c =
    let nest = g.W.Depth.nest in
    let inner = g.W.Walk.inner in
    let is_state = c.args.pass.is_state in
    let side = c.args.pass.side in
    let text = c.args.path.now in
    let others = c.object_beside-is_alike.result.0 in
    let beside = inside_list (above nest inner) is_state c.args.beside in
    on_ok_weaker c.tell_members.result (same_written
    (items_told side text (forest (members_at nest inner is_state c.args.own))
    (forest (members_at nest inner is_state others)))
    (items_told side text (inside_list (above nest inner) is_state (Some c.args.own)) beside)
    c.args.page.now c.tell_members.new.page
    (object_told nest inner is_state side text c.args.own others c.args.beside c.requires.object
    (c.object_beside-is_alike.ensures.found nest inner is_state))) c.tell_members.ensures

pub tell_members-requires-clause-rows : goal.tell_members-requires-clause-rows
tell_members-requires-clause-rows g c h = c.object_beside-is_alike.ensures.rows h
