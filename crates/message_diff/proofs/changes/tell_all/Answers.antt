use Rattle.std.proofs.Common.{◌∷◌, [], sym, ◌∙◌}
use Rattle.std.proofs.lemmas.Result.{on_ok_weaker}
use Rattle.shown.specs.Drafts.{with_members}
use Rattle.frame_shown.specs.Items.{objects}
use Rattle.frame_diff.specs.Items.{change_item}
use Rattle.message_diff.specs.Changed.{state_change}
use Rattle.message_diff.proofs.Changed.{any_told, lists_told, texts_told}
use Rattle.message_diff.proofs.changes.tell_all.Goals as goal

pub returns-then-ends_value : goal.returns-then-ends_value
returns-then-ends_value c =
    any_told c.args.by c.args.old.now c.args.new.now c.args.page.now c.tell_asked.new.page c.requires
    c.in_ok-tell_asked.ensures (sym c.if-ends_value.ensures)

pub returns-then-ends_value-2 : goal.returns-then-ends_value-2
returns-then-ends_value-2 c =
    lists_told c.args.by c.args.old.now c.args.new.now c.args.page.now c.tell_asked.new.page c.requires
    c.in_ok-tell_asked.ensures c.tell_asked-2.new.page (sym c.if-ends_value.ensures) c.in_ok-tell_asked-2.ensures
    (sym c.if-ends_value-2.ensures)

pub returns : goal.returns
returns c =
    let old = c.args.old.now in
    let new = c.args.new.now in
    on_ok_weaker c.show_texts.result
    (λ is. texts_told c.args.by old new c.args.page.now c.tell_asked.new.page c.requires
    c.in_ok-tell_asked.ensures c.tell_asked-2.new.page (sym c.if-ends_value.ensures) c.in_ok-tell_asked-2.ensures
    c.show_texts.new.page (sym c.if-ends_value-2.ensures)
    (is ∙ (λ i. with_members (objects (change_item (state_change (c.text.ensures i) (c.text-2.ensures i)) ∷ []))
    c.tell_asked-2.new.page)))
    c.show_texts.ensures
