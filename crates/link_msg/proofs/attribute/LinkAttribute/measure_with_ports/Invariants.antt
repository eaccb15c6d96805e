use Rattle.nla_wire.specs.Reading.{list_of}
use Rattle.link_msg.specs.Tables.{attribute_place}
use Rattle.link_msg.proofs.EmptyPorts.{Telling}
use Rattle.link_msg.proofs.attribute.LinkAttribute.measure_with_ports.Given as goal

abbrev pub invariant-loop-item : goal.invariant-loop-item
invariant-loop-item l =
    Telling l.family (list_of (attribute_place l.family).reads l.bytes) l.item-iterator l.len l.empty
