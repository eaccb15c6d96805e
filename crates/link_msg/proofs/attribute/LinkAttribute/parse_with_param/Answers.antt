use Rattle.nla_wire.proofs.Loop.{gives_found, gives_fault, gives_refused}
use Rattle.link_msg.specs.Tables.{attribute_place, attribute_lawful}
use Rattle.link_msg.proofs.attribute.LinkAttribute.parse_with_param.Goals as goal

pub returns-clause-found : goal.returns-clause-found
returns-clause-found c = gives_found (attribute_place c.args.family)
    (attribute_lawful c.args.family).agrees c.args.buffer.now c.is_frame.ensures c.parse_one.result c.parse_one.ensures

pub returns-clause-fault : goal.returns-clause-fault
returns-clause-fault c = gives_fault (attribute_place c.args.family)
    (attribute_lawful c.args.family).agrees c.args.buffer.now c.is_frame.ensures c.parse_one.result c.parse_one.ensures

pub returns-clause-refused : goal.returns-clause-refused
returns-clause-refused c = gives_refused (attribute_place c.args.family)
    (attribute_lawful c.args.family).agrees c.args.buffer.now c.is_frame.ensures c.parse_one.result c.parse_one.ensures
