use Rattle.nla_wire.proofs.Loop.{checks_found, checks_fault, checks_refused}
use Rattle.nla_wire.proofs.Checked.{checks_memory}
use Rattle.link_msg.specs.Tables.{attribute_place, attribute_lawful}
use Rattle.link_msg.proofs.attribute.LinkAttribute.check_with_param.Goals as goal

pub returns-clause-found : goal.returns-clause-found
returns-clause-found c = checks_found (attribute_place c.args.family)
    (attribute_lawful c.args.family).agrees c.args.buffer.now c.is_frame.ensures c.check_one.result c.check_one.ensures

pub returns-clause-fault : goal.returns-clause-fault
returns-clause-fault c = checks_fault (attribute_place c.args.family)
    (attribute_lawful c.args.family).agrees c.args.buffer.now c.is_frame.ensures c.check_one.result c.check_one.ensures

pub returns-clause-refused : goal.returns-clause-refused
returns-clause-refused c = checks_refused (attribute_place c.args.family)
    (attribute_lawful c.args.family).agrees c.args.buffer.now c.is_frame.ensures c.check_one.result c.check_one.ensures

pub returns-clause-memory : goal.returns-clause-memory
returns-clause-memory c =
    checks_memory (attribute_place c.args.family) (attribute_lawful c.args.family).agrees c.args.buffer.now
    c.is_frame.ensures (attribute_lawful c.args.family).no_memory c.check_one.result c.check_one.ensures
