use Rattle.std.proofs.Common.{List, ap, ◌∙◌}
use Rattle.std.proofs.lemmas.Result.{on_ok_weaker}
use Rattle.shown.specs.Drafts.{Members, with_members}
use Rattle.frame_shown.specs.Items.{objects}
use Rattle.frame_diff.specs.Laws.{messages_asked}
use Rattle.frame_diff.specs.Members.{leniently}
use Rattle.message_diff.proofs.Changed.{told_leniently}
use Rattle.message_diff.proofs.changes.tell_leniently.Goals as goal

pub returns : goal.returns
returns c =
    on_ok_weaker c.tell.result
    (λ is. is ∙ ap (λ (os : List Members). with_members (objects os) c.args.page.now)
    (told_leniently (messages_asked c.args.asked) c.args.by c.args.old.now c.args.new.now _ _ _ _ _ c.is_state.ensures
    c.order.ensures c.order-2.ensures c.requires (c.message.ensures ∙ c.in_ok-was.ensures ∙ ap leniently c.text.ensures)
    (c.message-2.ensures ∙ c.in_ok-is.ensures ∙ ap leniently c.text-2.ensures)))
    c.tell.ensures
