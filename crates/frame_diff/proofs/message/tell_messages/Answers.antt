use Rattle.std.proofs.lemmas.Result.{on_ok_weaker}
use Rattle.frame_diff.specs.Messages.{parts_of, with_order}
use Rattle.frame_diff.proofs.Told.{messages_written}
use Rattle.frame_diff.proofs.message.tell_messages.Goals as goal

pub returns : goal.returns
returns c =
    on_ok_weaker c.tell_side-2.result (messages_written c.args.is_state c.args.cx.now
    (with_order c.args.cx.now c.args.order) (parts_of c.args.old) (parts_of c.args.new) c.args.page.now
    c.tell_side.new.page c.tell_side-2.new.page c.in_ok-tell_side.ensures) c.tell_side-2.ensures
