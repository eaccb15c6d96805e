use Rattle.std.proofs.Common.{◌∙◌}
use Rattle.std.proofs.lemmas.Result.{on_ok_weaker}
use Rattle.std.specs.Prelude.{None, Some, option_map}
use Rattle.shown.specs.Drafts.{with_members}
use Rattle.frame_shown.specs.Items.{objects}
use Rattle.frame_diff.specs.Differences.{leaf_in}
use Rattle.frame_diff.specs.Groups.{group_held}
use Rattle.frame_diff.specs.Items.{leaf_items}
use Rattle.frame_diff.proofs.Grouped.{flat_none, flat_some}
use Rattle.frame_diff.proofs.plain_lists.tell_flat.Goals as goal

pub returns-in-Some : goal.returns-in-Some
returns-in-Some g c =
    let nest = g.W.Depth.nest in
    let inner = g.W.Walk.inner in
    let is_state = c.args.pass.is_state in
    let own = c.args.own in
    let other = c.in-Some.other in
    on_ok_weaker c.tell_leaf.result (λ told. flat_some nest inner is_state c.args.pass.side c.args.path.now own
    other c.plain_beside.result
    (leaf_in (option_map (group_held nest inner is_state) c.args.beside)) c.args.page.now c.tell_leaf.new.page
    (c.requires.own, c.requires.plain) c.in-Some.is c.plain_beside.ensures.plain c.plain_beside.ensures.value
    (told ∙ (λ k. with_members (objects (leaf_items c.args.pass.side c.args.path.now
    (c.flat_value-value.ensures (nest own.around.now) own.around.now k)
    (Some (c.flat_value-flat.ensures (nest other.around.now) other.around.now k)))) c.args.page.now)))
    c.tell_leaf.ensures

pub returns-in-None : goal.returns-in-None
returns-in-None g c =
    let nest = g.W.Depth.nest in
    let inner = g.W.Walk.inner in
    let is_state = c.args.pass.is_state in
    let own = c.args.own in
    on_ok_weaker c.tell_leaf-in-None.result (λ told. flat_none nest inner is_state c.args.pass.side c.args.path.now own
    c.plain_beside.result
    (leaf_in (option_map (group_held nest inner is_state) c.args.beside)) c.args.page.now c.tell_leaf-in-None.new.page
    (c.requires.own, c.requires.plain) c.in-None.is c.plain_beside.ensures.value
    (told ∙ (λ k. with_members (objects (leaf_items c.args.pass.side c.args.path.now
    (c.flat_value-value.ensures (nest own.around.now) own.around.now k) None)) c.args.page.now)))
    c.tell_leaf-in-None.ensures
