use Rattle.std.proofs.Common.{◌++◌, Some, sym}
use Rattle.std.proofs.lemmas.Result.{on_ok_weaker}
use Rattle.nla_wire.specs.Items.{items}
use Rattle.link_info.specs.Tables.{frames_in}
use Rattle.frame_diff.specs.Forests.{find}
use Rattle.frame_diff.specs.Groups.{all_of, group_held, group_step, rest_forest}
use Rattle.frame_diff.specs.Inside.{above, inside_list}
use Rattle.frame_diff.specs.Items.{items_told, joined, step_text}
use Rattle.frame_diff.specs.Walked.{listed_items, reading_at}
use Rattle.frame_diff.proofs.Entries.{both_told}
use Rattle.frame_diff.proofs.Grouped.{listed_told}
use Rattle.frame_diff.proofs.Inside.{same_written}
use Rattle.frame_diff.proofs.lists.tell_listed.Goals as goal

pub returns : goal.returns
returns g c =
    let nest = g.W.Depth.nest in
    let inner = g.W.Walk.inner in
    let is_state = c.args.pass.is_state in
    let side = c.args.pass.side in
    let text = c.args.path.now in
    let own = c.args.own in
    let beside = inside_list (above nest inner) is_state c.args.beside in
    let values = listed_items side (joined text (step_text (group_step own.list)))
    (group_held nest inner is_state (all_of own))
    (find (group_step own.list) beside) in
    let kept = items_told side text (rest_forest is_state own) beside in
    on_ok_weaker c.tell_rest.result (λ last. same_written (values ++ kept)
    (items_told side text (inside_list (above nest inner) is_state (Some own)) beside)
    c.args.page.now c.tell_rest.new.page
    (sym (listed_told side text (reading_at nest inner is_state own.around.now) own.list
    (frames_in (items own.bytes.now)) beside c.requires.listed))
    (both_told values kept c.args.page.now c.tell_group.new.page c.tell_rest.new.page c.in_ok-tell_group.ensures
    last)) c.tell_rest.ensures
