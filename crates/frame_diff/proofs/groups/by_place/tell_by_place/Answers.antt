use Rattle.std.proofs.lemmas.Result.{on_ok_weaker}
use Rattle.frame_diff.specs.Groups.{group_at, labelled_inside}
use Rattle.frame_diff.specs.Items.{items_told}
use Rattle.frame_diff.specs.Members.{places}
use Rattle.frame_diff.proofs.Inside.{same_written}
use Rattle.frame_diff.proofs.KeyedTold.{place_told}
use Rattle.frame_diff.proofs.groups.by_place.tell_by_place.Goals as goal

pub returns : goal.returns
returns g c =
    let nest = g.W.Depth.nest in
    let inner = g.W.Walk.inner in
    let is_state = c.args.pass.is_state in
    let side = c.args.pass.side in
    let text = c.args.path.now in
    let own = c.args.own in
    let others = c.placed_beside-others.result in
    on_ok_weaker c.tell_places.result (same_written
    (items_told side text (places (group_at nest inner is_state own)) (places (group_at nest inner is_state others)))
    (items_told side text (labelled_inside nest inner is_state own) (labelled_inside nest inner is_state c.args.others))
    c.args.page.now c.tell_places.new.page
    (place_told nest inner is_state side text own c.args.others others c.requires.own
    c.placed_beside-others.ensures.key c.placed_beside-others.ensures.found)) c.tell_places.ensures

pub tell_places-requires-clause-entries : goal.tell_places-requires-clause-entries
tell_places-requires-clause-entries g c = c.placed_beside-others.ensures.stands.0 c.requires.entries

pub tell_places-requires-clause-alike : goal.tell_places-requires-clause-alike
tell_places-requires-clause-alike g c h = c.placed_beside-others.ensures.stands.1 (c.requires.alike h)
