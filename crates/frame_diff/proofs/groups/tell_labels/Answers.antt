use Rattle.std.proofs.lemmas.Result.{on_ok_weaker}
use Rattle.frame_diff.specs.Groups.{group_inside, labelled_inside}
use Rattle.frame_diff.specs.Items.{items_told}
use Rattle.frame_diff.proofs.Inside.{same_written}
use Rattle.frame_diff.proofs.KeyedTold.{labels_told}
use Rattle.frame_diff.proofs.groups.tell_labels.Goals as goal

pub returns-in-Some : goal.returns-in-Some
returns-in-Some g c =
    let nest = g.W.Depth.nest in
    let inner = g.W.Walk.inner in
    let is_state = c.args.pass.is_state in
    let side = c.args.pass.side in
    let text = c.args.path.now in
    let others = c.in_ok-others.others in
    on_ok_weaker c.tell_by_key.result (same_written
    (items_told side text (labelled_inside nest inner is_state c.args.own)
    (labelled_inside nest inner is_state others))
    (items_told side text (group_inside nest inner is_state c.args.own)
    (group_inside nest inner is_state c.args.others)) c.args.page.now c.tell_by_key.new.page
    (labels_told nest inner is_state side text c.args.own c.args.others others c.requires.runs
    (c.in_ok-others.ensures.found nest inner is_state))) c.tell_by_key.ensures

pub returns-in-None : goal.returns-in-None
returns-in-None g c =
    let nest = g.W.Depth.nest in
    let inner = g.W.Walk.inner in
    let is_state = c.args.pass.is_state in
    let side = c.args.pass.side in
    let text = c.args.path.now in
    let others = c.in_ok-others.others in
    on_ok_weaker c.tell_by_place.result (same_written
    (items_told side text (labelled_inside nest inner is_state c.args.own)
    (labelled_inside nest inner is_state others))
    (items_told side text (group_inside nest inner is_state c.args.own)
    (group_inside nest inner is_state c.args.others)) c.args.page.now c.tell_by_place.new.page
    (labels_told nest inner is_state side text c.args.own c.args.others others c.requires.runs
    (c.in_ok-others.ensures.found nest inner is_state))) c.tell_by_place.ensures
