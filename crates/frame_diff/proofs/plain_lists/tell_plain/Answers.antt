use Rattle.std.proofs.Common.{◌∙◌}
use Rattle.std.proofs.lemmas.Result.{on_ok_weaker}
use Rattle.std.specs.Prelude.{option_map}
use Rattle.frame_diff.specs.Differences.{leaf_in}
use Rattle.frame_diff.specs.Groups.{group_held}
use Rattle.frame_diff.specs.Items.{leaf_items}
use Rattle.frame_diff.specs.Walked.{held_items}
use Rattle.frame_diff.proofs.Grouped.{flat_told}
use Rattle.frame_diff.proofs.Inside.{same_written}
use Rattle.frame_diff.proofs.plain_lists.tell_plain.Goals as goal

pub returns : goal.returns
returns g c =
    let nest = g.W.Depth.nest in
    let inner = g.W.Walk.inner in
    let is_state = c.args.pass.is_state in
    let held = group_held nest inner is_state in
    let side = c.args.pass.side in
    let text = c.args.path.now in
    let beside = option_map held c.args.beside in
    on_ok_weaker c.tell_flat.result (same_written (leaf_items side text (held c.args.own).0 (leaf_in beside))
    (held_items side text (held c.args.own) beside) c.args.page.now c.tell_flat.new.page
    (flat_told nest inner is_state side text c.args.own beside c.requires.plain
    (c.is_own_key.ensures ∙ c.if-is_own_key.false))) c.tell_flat.ensures
