use Rattle.std.proofs.Common.{◌∙◌}
use Rattle.std.proofs.lemmas.Result.{on_ok_weaker}
use Rattle.message_diff.specs.Changed.{change_tokens, list_text, written_items}
use Rattle.message_diff.proofs.Changed.{list_shown}
use Rattle.message_diff.proofs.told.push_changes.Goals as goal

pub returns : goal.returns
returns c =
    let list = list_text c.args.by c.args.old.now c.args.new.now in
    on_ok_weaker c.push_inside.result
    (λ added. added list (c.as_slice.ensures.value
    ∙ list_shown (change_tokens (written_items c.args.by c.args.old.now c.args.new.now)) c.in_ok-page.page
    c.show_changes.new.page c.new-text.result.items c.finish.new.out.items c.in_ok-page.ensures
    c.in_ok-show_changes.ensures c.new-text.ensures.items c.in_ok-finish.ensures))
    c.push_inside.ensures
