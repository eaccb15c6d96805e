use Rattle.std.proofs.Common.{◌≡◌, true, false, refl, arith}
use Rattle.nla_wire.specs.Reading.{list_of}
use Rattle.nla_wire.specs.Items.{items}
use Rattle.nla_wire.specs.Canon.{canon}
use Rattle.nla_wire.proofs.Written.{weighing_stops, weighing_passes, weighing_faults, weighs_frame, weighs_none}
use Rattle.link_msg.specs.Tables.{attribute_frame, AttributeFits, attribute_place}
use Rattle.link_msg.proofs.EmptyPorts.{telling_starts, telling_none, telling_some, telling_ends}
use Rattle.link_msg.proofs.EmptyPorts.{list_weighs_none}
use Rattle.link_msg.proofs.attribute.LinkAttribute.measure_with_ports.Goals as goal

pub loop-item-init : goal.loop-item-init
loop-item-init c =
    let left : c.into_iter-item-iterator.result ≡ items c.args.bytes.now = cc in
    telling_starts c.args.family c.args.bytes.now c.into_iter-item-iterator.result left

pub returns-in_default : goal.returns-in_default
returns-in_default c =
    let steps = rw c.in_default.is at c.in-Some.ensures.steps in
    list_weighs_none (list_of (attribute_place c.args.family).reads c.args.bytes.now)
    (weighing_faults (attribute_place c.args.family).reads (λ v. canon (attribute_frame v)) AttributeFits
    (list_of (attribute_place c.args.family).reads c.args.bytes.now) c.loop-item.item-iterator c.loop-item.len
    c.loop-item.invariant.weighing c.in_default.field-0.cause c.next.new.self steps)

pub returns-in_default-measure_frame : goal.returns-in_default-measure_frame
returns-in_default-measure_frame c =
    let steps = rw c.in-Ok.is at c.in-Some.ensures.steps in
    list_weighs_none (list_of (attribute_place c.args.family).reads c.args.bytes.now)
    (weighing_stops (attribute_place c.args.family).reads
    (λ v. canon (attribute_frame v)) AttributeFits (list_of (attribute_place c.args.family).reads c.args.bytes.now)
    c.loop-item.item-iterator c.loop-item.len c.loop-item.invariant.weighing c.in-Ok.frame c.next.new.self steps
    (weighs_none (λ v. (attribute_frame v).payload)
    (λ v. canon (attribute_frame v)) AttributeFits ((attribute_place c.args.family).reads c.in-Ok.frame)
    (rw c.in_default-measure_frame.is at c.measure_frame.ensures)))

pub returns-in_default-add_len : goal.returns-in_default-add_len
returns-in_default-add_len c =
    let steps = rw c.in-Ok.is at c.in-Some.ensures.steps in
    list_weighs_none (list_of (attribute_place c.args.family).reads c.args.bytes.now)
    (weighing_passes (attribute_place c.args.family).reads (λ v. canon (attribute_frame v)) AttributeFits
    (list_of (attribute_place c.args.family).reads c.args.bytes.now) c.loop-item.item-iterator
    c.loop-item.len c.loop-item.invariant.weighing c.in-Ok.frame c.next.new.self c.padded_len.result steps
    (weighs_frame attribute_frame AttributeFits ((attribute_place c.args.family).reads c.in-Ok.frame)
    c.in-Some-measure_frame.value c.padded_len.result (rw c.in-Some-measure_frame.is at c.measure_frame.ensures)
    c.padded_len.ensures) c.in_default-add_len.ensures)

pub loop-item-preserved-then-is_empty_ports : goal.loop-item-preserved-then-is_empty_ports
loop-item-preserved-then-is_empty_ports c =
    let steps = rw c.in-Ok.is at c.in-Some.ensures.steps in
    telling_none c.args.family (list_of (attribute_place c.args.family).reads c.args.bytes.now)
    c.loop-item.item-iterator c.loop-item.len c.loop-item.empty c.loop-item.invariant c.in-Ok.frame c.next.new.self
    steps c.is_empty_ports.ensures.frame c.in-Some-measure_frame.value
    (rw c.in-Some-measure_frame.is at c.measure_frame.ensures) c.padded_len.result c.in-Some-add_len.more
    c.padded_len.ensures c.in-Some-add_len.ensures.1
    (omega (arith, c.in-Some-add_len.ensures.0, c.in-Some-add_len.ensures.1))
    (c.if-is_empty_ports.ensures.told.0 refl)

pub loop-item-preserved : goal.loop-item-preserved
loop-item-preserved c =
    let steps = rw c.in-Ok.is at c.in-Some.ensures.steps in
    telling_some c.args.family (list_of (attribute_place c.args.family).reads c.args.bytes.now)
    c.loop-item.item-iterator c.loop-item.len c.loop-item.empty c.loop-item.invariant c.in-Ok.frame c.next.new.self
    steps c.is_empty_ports.ensures.frame c.in-Some-measure_frame.value
    (rw c.in-Some-measure_frame.is at c.measure_frame.ensures) c.padded_len.result c.in-Some-add_len.more
    c.padded_len.ensures c.in-Some-add_len.ensures.1
    (omega (arith, c.in-Some-add_len.ensures.0, c.in-Some-add_len.ensures.1))
    (λ none. let wrong : false ≡ true = c.if-is_empty_ports.ensures.told.1 none in absurd cc)

pub returns : goal.returns
returns c = telling_ends c.args.family (list_of (attribute_place c.args.family).reads c.args.bytes.now)
    c.loop-item.item-iterator c.loop-item.len c.loop-item.empty c.loop-item.invariant c.in-None.ensures.steps.0
