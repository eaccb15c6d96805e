use Rattle.std.proofs.Common.{refl}
use Rattle.nla_wire.specs.Grammar.{picked}
use Rattle.link_vf.specs.Tables.{link_vf_info_place}
use Rattle.link_msg.specs.declared.attribute.LinkAttribute.TheVariants as Attributes
use Rattle.link_view.proofs.Picking.{entries_parsed, entries_fault}
use Rattle.link_view.proofs.Variants.{functions_read, variant_fault}
use Rattle.link_view.proofs.laws.law_functions.Goals as goal

pub returns-clause-parsed : goal.returns-clause-parsed
returns-clause-parsed c = λ vs read.
    entries_parsed link_vf_info_place.grammar c.args.list.now _ refl vs
    (functions_read ((picked link_vf_info_place.grammar).reads c.args.list.now) vs read)

pub returns-clause-fault : goal.returns-clause-fault
returns-clause-fault c = λ e read.
    entries_fault link_vf_info_place.grammar c.args.list.now _ refl e
    (variant_fault Attributes.VfInfoList ((picked link_vf_info_place.grammar).reads c.args.list.now) e read)
