use Rattle.std.proofs.lemmas.Result.{on_ok_weaker}
use Rattle.frame_diff.specs.Messages.{parts_of, with_order}
use Rattle.frame_diff.proofs.Told.{moved_written}
use Rattle.frame_diff.proofs.message.tell_moved.Goals as goal

pub returns : goal.returns
returns c =
    on_ok_weaker c.tell_side.result (moved_written c.args.is_state c.args.cx.now
    (with_order c.args.cx.now c.args.order) (parts_of c.args.old) (parts_of c.args.new) c.args.page.now
    c.tell_side.new.page) c.tell_side.ensures
