use Rattle.std.proofs.Common.{rules}
use Rattle.link_msg.specs.Tables.{attribute_view, attribute_entries}
use Rattle.link_msg.proofs.Shaped.{adds_other}
use Rattle.link_msg.proofs.attribute.LinkAttribute.parse_nested_into.Goals as goal

pub returns-in_default : goal.returns-in_default
unfolding attribute_view attribute_entries
returns-in_default c =
    adds_other c.args.family c.args.buffer.now c.keep_into-in_default.result c.args.values.now.items
    c.keep_into-in_default.new.values.items (Prim.search rules) c.keep_into-in_default.ensures
