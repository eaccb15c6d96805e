use Rattle.std.proofs.Common.{rules, sym}
use Rattle.link_msg.specs.Tables.{attribute_view, attribute_entries}
use Rattle.link_view.proofs.Kept.{other_read}
use Rattle.link_view.proofs.borrowed.read_frame.Goals as goal

pub returns-in_default : goal.returns-in_default
unfolding attribute_view attribute_entries
returns-in_default c = sym (other_read c.args.family c.args.frame (Prim.search rules))
