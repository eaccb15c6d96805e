use Rattle.std.proofs.Common.{◌∙◌, sym}
use Rattle.std.proofs.lemmas.Result.{on_ok_weaker}
use Rattle.std.specs.Prelude.{option_map}
use Rattle.frame_diff.specs.Differences.{leaf_in}
use Rattle.frame_diff.specs.Groups.{list_held}
use Rattle.frame_diff.specs.Items.{leaf_items}
use Rattle.frame_diff.specs.Walked.{held_items}
use Rattle.frame_diff.proofs.Alike.{entry_silent}
use Rattle.frame_diff.proofs.Classes.{above_runless}
use Rattle.frame_diff.proofs.Inside.{held_leaf, same_written}
use Rattle.frame_diff.proofs.one_value.tell_entry.Goals as goal

pub returns-then-is_same_entry : goal.returns-then-is_same_entry
returns-then-is_same_entry g c =
    entry_silent g.W.Depth.nest g.W.Walk.inner c.laws.ensures.apart c.args.pass.is_state c.args.pass.side
    c.args.path.now c.args.own c.args.beside c.args.page.now (c.requires.alike c.if-pass.true)
    (c.is_same_entry.ensures c.if-is_same_entry.true)

pub returns-then-is_without : goal.returns-then-is_without
returns-then-is_without g c =
    let nest = g.W.Depth.nest in
    let inner = g.W.Walk.inner in
    let is_state = c.args.pass.is_state in
    let side = c.args.pass.side in
    let text = c.args.path.now in
    let own = c.args.own in
    let held = list_held nest inner is_state own in
    let beside = option_map (list_held nest inner is_state) c.args.beside in
    on_ok_weaker c.tell_bare.result (same_written (leaf_items side text held.0 (leaf_in beside))
    (held_items side text held beside) c.args.page.now c.tell_bare.new.page
    (sym (held_leaf side text held beside (c.is_without.ensures.value nest inner is_state ∙ c.if-is_without.true)
    (above_runless nest inner is_state own.around.now own.list own.bytes.now).1))) c.tell_bare.ensures
