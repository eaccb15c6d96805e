use Rattle.std.proofs.Common.{◌∙◌}
use Rattle.std.proofs.lemmas.Result.{on_ok_weaker}
use Rattle.frame_diff.specs.Groups.{group_held}
use Rattle.frame_diff.specs.Values.{value_shown}
use Rattle.frame_diff.specs.declared.side.Side.TheVariants.{Old}
use Rattle.frame_diff.proofs.Grouped.{leaf_written, whole_shown_is}
use Rattle.frame_diff.proofs.one_value.tell_list.Goals as goal

pub returns : goal.returns
returns g c =
    let nest = g.W.Depth.nest in
    let inner = g.W.Walk.inner in
    let is_state = c.args.is_state in
    let old = c.args.old in
    let new = c.args.new in
    let cx = old.around.now in
    let theirs = new.around.now in
    on_ok_weaker c.tell_turned.result (leaf_written Old c.args.path.now
    (value_shown (nest cx) cx c.flat_value-was.result) (value_shown (nest theirs) theirs c.flat_value-is.result)
    (group_held nest inner is_state old).0 (group_held nest inner is_state new).0 c.args.page.now c.tell_turned.new.page
    (c.flat_value-was.ensures (nest cx) cx
    ∙ whole_shown_is nest inner is_state old c.requires.old c.requires.entries)
    (c.flat_value-is.ensures (nest theirs) theirs
    ∙ whole_shown_is nest inner is_state new c.requires.new (c.requires.same ∙ c.requires.entries)))
    c.tell_turned.ensures
