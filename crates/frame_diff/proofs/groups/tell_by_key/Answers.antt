use Rattle.std.proofs.lemmas.Result.{on_ok_weaker}
use Rattle.frame_diff.specs.Groups.{labelled_inside}
use Rattle.frame_diff.specs.Items.{items_told}
use Rattle.frame_diff.proofs.Inside.{same_written}
use Rattle.frame_diff.proofs.KeyedTold.{key_told}
use Rattle.frame_diff.proofs.groups.tell_by_key.Goals as goal

pub returns : goal.returns
returns g c =
    let nest = g.W.Depth.nest in
    let inner = g.W.Walk.inner in
    let is_state = c.args.pass.is_state in
    let side = c.args.pass.side in
    let text = c.args.path.now in
    let own = labelled_inside nest inner is_state c.args.own in
    let others = c.keyed_beside-others.result in
    on_ok_weaker c.tell_keyed.result (same_written
    (items_told side text own (labelled_inside nest inner is_state others))
    (items_told side text own (labelled_inside nest inner is_state c.args.others))
    c.args.page.now c.tell_keyed.new.page
    (key_told nest inner is_state side text c.args.key c.args.own c.args.others others c.requires.own
    c.keyed_beside-others.ensures.found)) c.tell_keyed.ensures

pub tell_keyed-requires-clause-entries : goal.tell_keyed-requires-clause-entries
tell_keyed-requires-clause-entries g c = c.keyed_beside-others.ensures.stands.0 c.requires.entries

pub tell_keyed-requires-clause-alike : goal.tell_keyed-requires-clause-alike
tell_keyed-requires-clause-alike g c h = c.keyed_beside-others.ensures.stands.1 (c.requires.alike h)
