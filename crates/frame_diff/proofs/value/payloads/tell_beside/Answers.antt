use Rattle.std.proofs.Common.{◌≡◌, ◌∙◌, ap, false, rules, sym, true}
use Rattle.std.proofs.lemmas.Result.{on_ok_weaker}
use Rattle.std.specs.Prelude.{None, Some}
use Rattle.frame_diff.specs.Each.{each_shown, whole_shown}
use Rattle.frame_diff.specs.Inside.{has_none, is_texts}
use Rattle.frame_diff.specs.Items.{alone_texts, leaf_items, texts_items}
use Rattle.frame_diff.specs.Walked.{held_at}
use Rattle.frame_diff.proofs.Inside.{same_written}
use Rattle.frame_diff.proofs.Slots.{not_texts, slots_alone, slots_leaf}
use Rattle.frame_diff.proofs.value.payloads.tell_beside.Goals as goal

pub returns-then-not-holds_none : goal.returns-then-not-holds_none
returns-then-not-holds_none g c =
    let nest = g.W.Depth.nest in
    let is_state = c.args.pass.is_state in
    let there = held_at nest g.W.Walk.inner is_state c.args.other in
    let side = c.args.pass.side in
    let text = c.args.path.now in
    let v = whole_shown nest c.args.own.now in
    let vs = each_shown nest c.args.own.now in
    let some : c.holds_none.result ≡ false = search rules in
    on_ok_weaker c.tell_alone.result (same_written (alone_texts side text v vs None)
    (texts_items side text v vs (Some there)) c.args.page.now c.tell_alone.new.page
    (sym (slots_alone side text v vs there (ap has_none c.requires.held ∙ c.holds_none.ensures is_state ∙ some))))
    c.tell_alone.ensures

pub returns : goal.returns
returns g c =
    let nest = g.W.Depth.nest in
    let inner = g.W.Walk.inner in
    let is_state = c.args.pass.is_state in
    let there = held_at nest inner is_state c.args.other in
    let side = c.args.pass.side in
    let text = c.args.path.now in
    let v = whole_shown nest c.args.own.now in
    let vs = each_shown nest c.args.own.now in
    let none : c.holds_none.result ≡ true = search rules in
    on_ok_weaker c.tell_leaf.result (same_written (leaf_items side text v (Some there.0))
    (texts_items side text v vs (Some there)) c.args.page.now c.tell_leaf.new.page
    (sym (slots_leaf side text v vs there (ap has_none c.requires.held ∙ c.holds_none.ensures is_state ∙ none)
    (ap is_texts c.requires.held
    ∙ not_texts inner c.laws.ensures.runless is_state c.args.other.around.now c.args.held.now c.requires.plain))))
    c.tell_leaf.ensures
