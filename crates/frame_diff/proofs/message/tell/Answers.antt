use Rattle.std.proofs.Common.{ap, sym, ◌∙◌}
use Rattle.std.specs.List.{flat_map}
use Rattle.std.proofs.lemmas.Result.{on_ok_weaker}
use Rattle.frame_shown.specs.Plain.{plain}
use Rattle.frame_diff.specs.Laws.{messages_asked, messages_by, messages_moved}
use Rattle.frame_diff.specs.Messages.{parts_of, with_order}
use Rattle.frame_diff.specs.Ranges.{told_items}
use Rattle.frame_diff.specs.declared.message.Asked.{Asked}
use Rattle.frame_diff.proofs.Inside.{same_written}
use Rattle.frame_diff.proofs.Orders.{plainly_by, plainly_moved}
use Rattle.frame_diff.proofs.message.tell.Goals as goal

pub returns-in-Changes : goal.returns-in-Changes
returns-in-Changes c =
    let is_state = c.args.is_state in
    let cx = c.plain-cx.result in
    let one = plain c.args.orders.0 in
    let two = plain c.args.orders.1 in
    let old = parts_of c.args.old in
    let new = parts_of c.args.new in
    on_ok_weaker c.tell_messages.result (same_written
    (flat_map told_items (messages_by is_state cx (with_order cx c.args.orders.1) old new))
    (flat_map told_items (messages_asked c.args.asked is_state one two old new)) c.args.page.now
    c.tell_messages.new.page
    (ap (flat_map told_items) (plainly_by is_state c.args.orders.0 c.args.orders.1 cx c.plain-cx.ensures old new)
    ∙ ap (λ (asked : Asked). flat_map told_items (messages_asked asked is_state one two old new))
    (sym c.in-Changes.is))) c.tell_messages.ensures

pub returns-in-Moved : goal.returns-in-Moved
returns-in-Moved c =
    let is_state = c.args.is_state in
    let cx = c.plain-cx.result in
    let one = plain c.args.orders.0 in
    let two = plain c.args.orders.1 in
    let old = parts_of c.args.old in
    let new = parts_of c.args.new in
    on_ok_weaker c.tell_moved.result (same_written
    (flat_map told_items (messages_moved is_state cx (with_order cx c.args.orders.1) old new))
    (flat_map told_items (messages_asked c.args.asked is_state one two old new)) c.args.page.now
    c.tell_moved.new.page
    (ap (flat_map told_items) (plainly_moved is_state c.args.orders.0 c.args.orders.1 cx c.plain-cx.ensures old new)
    ∙ ap (λ (asked : Asked). flat_map told_items (messages_asked asked is_state one two old new))
    (sym c.in-Moved.is))) c.tell_moved.ensures
