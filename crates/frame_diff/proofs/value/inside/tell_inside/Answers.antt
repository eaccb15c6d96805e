use Rattle.std.proofs.lemmas.Result.{on_ok_weaker}
use Rattle.std.specs.Prelude.{option_map}
use Rattle.frame_diff.specs.Differences.{inside_in}
use Rattle.frame_diff.specs.Inside.{inside_list}
use Rattle.frame_diff.specs.Items.{items_told}
use Rattle.frame_diff.specs.Walked.{held_at}
use Rattle.frame_diff.proofs.Inside.{list_beside, same_written}
use Rattle.frame_diff.proofs.value.inside.tell_inside.Goals as goal

pub tell_list-requires-clause-alike : goal.tell_list-requires-clause-alike
tell_list-requires-clause-alike g c h = c.in_ok-there.ensures.alike c.args.own (c.requires.alike h)

pub returns : goal.returns
returns g c =
    let nest = g.W.Depth.nest in
    let inner = g.W.Walk.inner in
    let is_state = c.args.pass.is_state in
    let own = c.args.own in
    let side = c.args.pass.side in
    let text = c.args.path.now in
    let f = inner is_state own.around.now own.list own.bytes.now in
    let there = inside_list inner is_state c.in_ok-there.there in
    let beside = inside_in (option_map (held_at nest inner is_state) c.args.beside) in
    on_ok_weaker c.tell_list.result (same_written (items_told side text f there) (items_told side text f beside)
    c.args.page.now c.tell_list.new.page
    (list_beside side text f there beside (c.laws.ensures.apart is_state own.around.now own.list own.bytes.now)
    (c.laws.ensures.runless is_state own.around.now own.list own.bytes.now).0
    (c.laws.ensures.fieldless is_state own.around.now own.list own.bytes.now)
    (c.in_ok-there.ensures.held nest inner))) c.tell_list.ensures
