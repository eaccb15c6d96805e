use Rattle.std.proofs.Common.{◌∙◌}
use Rattle.std.proofs.lemmas.Result.{on_ok_weaker}
use Rattle.std.specs.Prelude.{option_map}
use Rattle.frame_diff.specs.Groups.{group_held, group_inside}
use Rattle.frame_diff.specs.Items.{items_told, moved_items}
use Rattle.frame_diff.specs.Walked.{held_items, listed_items}
use Rattle.frame_diff.proofs.Entries.{both_told}
use Rattle.frame_diff.proofs.Grouped.{plain_listed}
use Rattle.frame_diff.proofs.Inside.{same_written}
use Rattle.frame_diff.proofs.KeyedTold.{values_told}
use Rattle.frame_diff.proofs.groups.tell_values.Goals as goal

pub returns-then-are_plain : goal.returns-then-are_plain
returns-then-are_plain g c =
    let nest = g.W.Depth.nest in
    let inner = g.W.Walk.inner in
    let is_state = c.args.pass.is_state in
    let held = group_held nest inner is_state in
    let side = c.args.pass.side in
    let text = c.args.path.now in
    let beside = option_map held c.args.beside in
    on_ok_weaker c.tell_plain.result (same_written (held_items side text (held c.args.own) beside)
    (listed_items side text (held c.args.own) beside) c.args.page.now c.tell_plain.new.page
    (plain_listed nest inner is_state side text c.args.own beside (c.are_plain.ensures ∙ c.if-are_plain.true)))
    c.tell_plain.ensures

pub returns : goal.returns
returns g c =
    let nest = g.W.Depth.nest in
    let inner = g.W.Walk.inner in
    let is_state = c.args.pass.is_state in
    let held = group_held nest inner is_state in
    let side = c.args.pass.side in
    let text = c.args.path.now in
    let own = held c.args.own in
    let beside = option_map held c.args.beside in
    let others = c.values_beside-is_alike.result.0 in
    let moved = moved_items side text own.0 own.1 beside in
    on_ok_weaker c.tell_inside.result (λ told. both_told moved (held_items side text own beside) c.args.page.now
    c.tell_moved.new.page c.tell_inside.new.page c.in_ok-tell_moved.ensures
    (same_written
    (items_told side text (group_inside nest inner is_state c.args.own) (group_inside nest inner is_state others))
    (held_items side text own beside) c.tell_moved.new.page c.tell_inside.new.page
    (values_told nest inner is_state side text c.args.own others c.args.beside
    (c.are_plain.ensures ∙ c.if-are_plain.false) c.values_beside-is_alike.ensures.found
    c.values_beside-is_alike.ensures.runs) told)) c.tell_inside.ensures
