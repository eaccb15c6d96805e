use Rattle.frame_shown.specs.Plain.{plain}
use Rattle.frame_diff.proofs.Messages.{messages_told}
use Rattle.frame_diff.proofs.RangesTold.{ranges_are}
use Rattle.frame_diff.proofs.Written.{written_is}
use Rattle.message_diff.specs.Compared.{is_state, parts_by}
use Rattle.message_diff.proofs.laws.law_told.Goals as goal

pub returns : goal.returns
returns c = record {
  all = λ by old new. messages_told.all (is_state by) (plain old.order) (plain new.order) (parts_by by old.text)
      (parts_by by new.text);
  by_leaves = λ by old new. messages_told.by_leaves (is_state by) (plain old.order) (plain new.order)
      (parts_by by old.text) (parts_by by new.text);
  once = λ by old new. messages_told.once (is_state by) (plain old.order) (plain new.order) (parts_by by old.text)
      (parts_by by new.text);
  silent = λ by shot. messages_told.silent (is_state by) (plain shot.order) (parts_by by shot.text);
  written = λ by old new. ranges_are (is_state by) (plain old.order) (plain new.order) (parts_by by old.text)
      (parts_by by new.text);
  silent_written = λ by old new. written_is.silent (is_state by) (plain old.order) (plain new.order)
      (parts_by by old.text) (parts_by by new.text);
  moved = λ by old new. written_is.moved (is_state by) (plain old.order) (plain new.order) (parts_by by old.text)
      (parts_by by new.text);
}
