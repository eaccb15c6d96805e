use Rattle.std.proofs.lemmas.Result.{on_ok_weaker}
use Rattle.frame_diff.specs.Messages.{parts_of}
use Rattle.frame_diff.proofs.Told.{side_told}
use Rattle.frame_diff.proofs.message.tell_side.Goals as goal

pub returns : goal.returns
returns c =
    on_ok_weaker c.tell_refused.result (side_told c.args.pass.is_state c.args.cx.now c.args.theirs.now
    c.args.pass.side (parts_of c.args.own) (parts_of c.args.others) c.args.page.now c.tell_header.new.page
    c.tell_attributes.new.page c.tell_refused.new.page c.in_ok-tell_header.ensures c.in_ok-tell_attributes.ensures)
    c.tell_refused.ensures
