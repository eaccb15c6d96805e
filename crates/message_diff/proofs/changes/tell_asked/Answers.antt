use Rattle.std.proofs.Common.{List, sym, ap, ◌∙◌}
use Rattle.std.proofs.lemmas.Result.{on_ok_weaker}
use Rattle.shown.specs.Drafts.{Members, with_members}
use Rattle.frame_shown.specs.Items.{objects}
use Rattle.frame_diff.specs.Laws.{messages_asked}
use Rattle.frame_diff.specs.Members.{whole}
use Rattle.message_diff.proofs.Changed.{told_whole}
use Rattle.message_diff.proofs.changes.tell_asked.Goals as goal

pub returns : goal.returns
returns c =
    on_ok_weaker c.tell.result
    (λ is. is ∙ ap (λ (os : List Members). with_members (objects os) c.args.page.now)
    (told_whole (messages_asked c.args.asked) c.args.by c.args.old.now c.args.new.now _ _ _ _ _ c.is_state.ensures
    c.order.ensures c.order-2.ensures
    (sym c.is_lenient.ensures ∙ c.if-is_lenient.false) (c.whole-was.ensures ∙ ap whole c.text.ensures)
    (c.whole-is.ensures ∙ ap whole c.text-2.ensures)))
    c.tell.ensures
