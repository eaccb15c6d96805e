use Rattle.std.proofs.Common.{Some, None, refl, length}
use Rattle.link_msg.proofs.Shaped.{shape_here, shape_weighs}
use Rattle.link_msg.proofs.attribute.LinkAttribute.measure_frame.Goals as goal

pub returns-in-Some : goal.returns-in-Some
returns-in-Some c =
    shape_weighs c.args.family c.args.buffer.now (Some c.in-Some.shape) c.measure.result
    (shape_here c.args.family c.args.buffer.now c.kind.result
    c.value-payload.result.now c.of.result (Some c.in-Some.shape) c.kind.ensures c.value-payload.ensures.value
    c.in-Some.is c.of.ensures) c.is_frame.ensures (rw c.value-payload.ensures.value at c.measure.ensures)

pub returns-in-None : goal.returns-in-None
returns-in-None c =
    rw c.value-payload.ensures.value
    (shape_weighs c.args.family c.args.buffer.now None (Some (length c.args.buffer.now.payload))
    (shape_here c.args.family c.args.buffer.now c.kind.result c.value-payload.result.now c.of.result None
    c.kind.ensures c.value-payload.ensures.value c.in-None.is c.of.ensures) c.is_frame.ensures refl)
