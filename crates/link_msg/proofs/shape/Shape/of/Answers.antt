use Rattle.std.proofs.Common.{rules, sym}
use Rattle.nla_wire.proofs.Tables.{other_way}
use Rattle.link_msg.specs.Tables.{base, NotEmptyPorts, attribute_view, attribute_entries}
use Rattle.link_msg.proofs.shape.Shape.of.Goals as goal

pub returns-in_default : goal.returns-in_default
unfolding attribute_view attribute_entries
returns-in_default c = sym (other_way base attribute_view NotEmptyPorts c.args.number c.args.size
    (attribute_entries c.args.family) (Prim.search rules))
