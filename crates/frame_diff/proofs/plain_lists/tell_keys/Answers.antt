use Rattle.std.proofs.Common.{◌∙◌, Some}
use Rattle.std.proofs.lemmas.Result.{on_ok_weaker}
use Rattle.std.specs.Prelude.{[], cond, map}
use Rattle.frame_diff.specs.Differences.{is_shown_same}
use Rattle.frame_diff.specs.Each.{each_shown, whole_shown}
use Rattle.frame_diff.specs.Groups.{group_at, group_held}
use Rattle.frame_diff.specs.Items.{leaf_items, texts_by}
use Rattle.frame_diff.specs.Members.{value_in}
use Rattle.frame_diff.specs.Values.{value_shown}
use Rattle.frame_diff.specs.Walked.{held_items}
use Rattle.frame_diff.proofs.Grouped.{both_written, key_valued, keys_both, keys_flat, leaf_written, shown_flat}
use Rattle.frame_diff.proofs.Inside.{same_written}
use Rattle.frame_diff.proofs.plain_lists.tell_keys.Goals as goal

pub returns-then-is_own_key : goal.returns-then-is_own_key
returns-then-is_own_key g c =
    let nest = g.W.Depth.nest in
    let inner = g.W.Walk.inner in
    let is_state = c.args.pass.is_state in
    let side = c.args.pass.side in
    let text = c.args.path.now in
    let own = c.args.own in
    let other = c.args.other in
    let v = (group_held nest inner is_state own).0 in
    let w = (group_held nest inner is_state other).0 in
    let vs = map value_in (group_at nest inner is_state own) in
    let ws = map value_in (group_at nest inner is_state other) in
    let each = c.in_ok-each.each in
    let theirs = c.in_ok-theirs.theirs in
    on_ok_weaker c.tell_both.result (λ told. same_written
    (cond (is_shown_same v w) [] (texts_by side text v vs w ws))
    (held_items side text (group_held nest inner is_state own) (Some (group_held nest inner is_state other)))
    c.args.page.now c.tell_both.new.page
    (keys_both nest inner is_state side text own c.requires.plain c.requires.key other c.requires.others
    (c.is_own_key.ensures ∙ c.if-is_own_key.true))
    (both_written side text (whole_shown nest each) (whole_shown nest theirs) v w (each_shown nest each)
    (each_shown nest theirs) vs ws c.args.page.now c.tell_both.new.page
    (c.in_ok-each.ensures.whole nest inner c.requires.plain)
    (c.in_ok-theirs.ensures.whole nest inner c.requires.others) (c.in_ok-each.ensures.values nest inner)
    (c.in_ok-theirs.ensures.values nest inner) told)) c.tell_both.ensures

pub returns : goal.returns
returns g c =
    let nest = g.W.Depth.nest in
    let inner = g.W.Walk.inner in
    let is_state = c.args.pass.is_state in
    let side = c.args.pass.side in
    let text = c.args.path.now in
    let own = c.args.own in
    let other = c.args.other in
    let cx = own.around.now in
    let theirs = other.around.now in
    let v = (group_held nest inner is_state own).0 in
    let w = (group_held nest inner is_state other).0 in
    on_ok_weaker c.tell_leaf.result (λ told. same_written (leaf_items side text v (Some w))
    (held_items side text (group_held nest inner is_state own) (Some (group_held nest inner is_state other)))
    c.args.page.now c.tell_leaf.new.page
    (keys_flat nest inner is_state side text own c.requires.plain c.requires.key other c.requires.others
    (c.is_own_key.ensures ∙ c.if-is_own_key.false))
    (leaf_written side text (value_shown (nest cx) cx c.flat_value-value.result)
    (value_shown (nest theirs) theirs c.flat_value.result) v w c.args.page.now c.tell_leaf.new.page
    (c.flat_value-value.ensures (nest cx) cx
    ∙ shown_flat nest inner is_state own (key_valued own.number own.list c.requires.key) c.requires.plain)
    (c.flat_value.ensures (nest theirs) theirs
    ∙ shown_flat nest inner is_state other c.requires.valued c.requires.others) told)) c.tell_leaf.ensures
