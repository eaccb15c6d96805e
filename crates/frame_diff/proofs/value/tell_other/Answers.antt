use Rattle.std.proofs.Common.{◌∙◌, ap, sym}
use Rattle.std.proofs.lemmas.Result.{on_ok_weaker}
use Rattle.std.specs.Prelude.{option_map}
use Rattle.frame_diff.specs.Differences.{inside_in, leaf_in}
use Rattle.frame_diff.specs.Inside.{has_none, is_texts}
use Rattle.frame_diff.specs.Items.{items_told, leaf_items}
use Rattle.frame_diff.specs.Rows.{inside_by}
use Rattle.frame_diff.specs.Walked.{held_at, held_items}
use Rattle.frame_diff.proofs.Inside.{held_leaf, held_rest, same_written}
use Rattle.frame_diff.proofs.Slots.{not_texts}
use Rattle.frame_diff.proofs.value.tell_other.Goals as goal

pub returns-then-holds_none : goal.returns-then-holds_none
returns-then-holds_none g c =
    let inner = g.W.Walk.inner in
    let is_state = c.args.pass.is_state in
    let held = held_at g.W.Depth.nest inner is_state in
    let side = c.args.pass.side in
    let text = c.args.path.now in
    let beside = option_map held c.args.beside in
    on_ok_weaker c.tell_plain.result (same_written (leaf_items side text (held c.args.own).0 (leaf_in beside))
    (held_items side text (held c.args.own) beside) c.args.page.now c.tell_plain.new.page
    (sym (held_leaf side text (held c.args.own) beside
    (ap has_none c.requires.held ∙ c.holds_none.ensures is_state ∙ c.if-holds_none.true)
    (ap is_texts c.requires.held
    ∙ not_texts inner c.laws.ensures.runless is_state c.args.own.around.now c.args.held.now c.requires.plain))))
    c.tell_plain.ensures

pub returns : goal.returns
returns g c =
    let inner = g.W.Walk.inner in
    let is_state = c.args.pass.is_state in
    let held = held_at g.W.Depth.nest inner is_state in
    let side = c.args.pass.side in
    let text = c.args.path.now in
    let cx = c.args.own.around.now in
    let beside = option_map held c.args.beside in
    let inside = inside_by (inner is_state cx) cx c.args.held.now in
    on_ok_weaker c.tell_held.result (same_written (items_told side text inside (inside_in beside))
    (held_items side text (held c.args.own) beside) c.args.page.now c.tell_held.new.page
    (ap (λ f. items_told side text f (inside_in beside)) (sym c.requires.held)
    ∙ sym (held_rest side text (held c.args.own) beside
    (ap has_none c.requires.held ∙ c.holds_none.ensures is_state ∙ c.if-holds_none.false)))) c.tell_held.ensures
