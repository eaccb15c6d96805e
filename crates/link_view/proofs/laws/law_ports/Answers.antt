use Rattle.std.proofs.Common.{refl}
use Rattle.nla_wire.specs.Grammar.{picked}
use Rattle.link_vf.specs.Tables.{link_vf_port_place}
use Rattle.link_msg.specs.declared.attribute.LinkAttribute.TheVariants as Attributes
use Rattle.link_view.proofs.Picking.{entries_parsed, entries_fault}
use Rattle.link_view.proofs.Variants.{ports_read, some_fault}
use Rattle.link_view.proofs.laws.law_ports.Goals as goal

pub returns-clause-parsed : goal.returns-clause-parsed
returns-clause-parsed c = λ vs read.
    entries_parsed link_vf_port_place.grammar c.args.list.now _ refl vs
    (ports_read c.args.list.now ((picked link_vf_port_place.grammar).reads c.args.list.now) vs read)

pub returns-clause-fault : goal.returns-clause-fault
returns-clause-fault c = λ e some read.
    entries_fault link_vf_port_place.grammar c.args.list.now _ refl e
    (some_fault Attributes.VfPorts c.args.list.now ((picked link_vf_port_place.grammar).reads c.args.list.now) e
    some read)
