use Rattle.std.specs.Prelude.{take}
use Rattle.std.specs.List.{AllByRecursion}
use Rattle.link_msg.specs.Tables.{NotEmptyPorts}
use Rattle.link_msg.proofs.message.LinkMessage.has_empty_ports.Given as goal

abbrev pub invariant-loop-attribute : goal.invariant-loop-attribute
invariant-loop-attribute l = AllByRecursion NotEmptyPorts (take l.attribute-index l.self.attributes)
