use Rattle.std.proofs.Common.{◌≡◌}
use Rattle.nla_wire.specs.Items.{items}
use Rattle.link_msg.proofs.LenientPorts.{going_starts, going_faults, going_ends, going_on, going_stops}
use Rattle.link_msg.proofs.lenient_encoding.holds_no_port.Goals as goal

pub loop-item-init : goal.loop-item-init
loop-item-init c =
    let left : c.into_iter-item-iterator.result ≡ items c.args.bytes.now = cc in
    going_starts c.args.family c.args.bytes.now c.into_iter-item-iterator.result left

pub returns-in_default : goal.returns-in_default
returns-in_default c =
    let steps = rw c.in_default.is at c.in-Some.ensures.steps in
    going_faults c.args.family c.args.bytes.now c.loop-item.item-iterator c.loop-item.invariant
    c.in_default.field-0.cause c.next.new.self steps

pub returns-then-is_no_port : goal.returns-then-is_no_port
returns-then-is_no_port c =
    let steps = rw c.in-Ok.is at c.in-Some.ensures.steps in
    going_stops c.args.family c.args.bytes.now c.loop-item.item-iterator c.loop-item.invariant c.in-Ok.frame
    c.next.new.self steps c.if-is_no_port.ensures

pub loop-item-preserved : goal.loop-item-preserved
loop-item-preserved c =
    let steps = rw c.in-Ok.is at c.in-Some.ensures.steps in
    going_on c.args.family c.args.bytes.now c.loop-item.item-iterator c.loop-item.invariant c.in-Ok.frame
    c.next.new.self steps c.if-is_no_port.ensures

pub returns : goal.returns
returns c = going_ends c.args.family c.args.bytes.now c.loop-item.item-iterator c.loop-item.invariant
    c.in-None.ensures.steps.0
