use Rattle.std.proofs.Common.{false, arith}
use Rattle.nla_wire.proofs.Front.{all_bytes}
use Rattle.link_msg.specs.Tables.{attribute_place}
use Rattle.link_msg.specs.Nested.{Accepts, Refuses, in_attribute}
use Rattle.link_msg.proofs.Innermost.{none_in, frame_in}
use Rattle.link_msg.proofs.Sound.{sound_outermost}
use Rattle.link_msg.proofs.Faults.{accepted_values}
use Rattle.link_msg.proofs.fault_at.in_attributes.Goals as goal

pub returns-in_default-clause-path : goal.returns-in_default-clause-path
returns-in_default-clause-path c =
    let place = attribute_place c.args.family in
    none_in (Accepts false place) (Refuses false place) (in_attribute c.args.family) (sound_outermost c.args.family)
    c.args.rest.now (all_bytes c.args.rest.now (λ i. omega (arith, c.type_inv.rest i))) c.in_default.ensures.first

pub returns-in_default-clause-read : goal.returns-in_default-clause-read
returns-in_default-clause-read c =
    accepted_values (attribute_place c.args.family) c.args.rest.now c.in_default.ensures.first

pub returns-in-Some-frame-clause-path : goal.returns-in-Some-frame-clause-path
returns-in-Some-frame-clause-path c =
    let place = attribute_place c.args.family in
    frame_in (Accepts false place) (Refuses false place) (in_attribute c.args.family) (sound_outermost c.args.family)
    c.args.rest.now (all_bytes c.args.rest.now (λ i. omega (arith, c.type_inv.rest i))) c.in-Some.field-0.at 3
    c.frame.result c.in-Some-frame.frame c.in-Some.field-0.frame c.in-Some.ensures.first c.in-Some-frame.is
    c.in_attribute.result c.in_attribute.ensures c.kind.result c.kind.ensures c.frame.ensures
