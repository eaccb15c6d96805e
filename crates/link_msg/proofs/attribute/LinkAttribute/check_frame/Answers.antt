use Rattle.std.proofs.Common.{Some, None, Ok, refl}
use Rattle.link_msg.proofs.Shaped.{shape_here, shape_checks}
use Rattle.link_msg.proofs.attribute.LinkAttribute.check_frame.Goals as goal

pub returns-in-Some : goal.returns-in-Some
returns-in-Some c =
    shape_checks c.args.family c.args.buffer.now (Some c.in-Some.shape) c.check.result
    (shape_here c.args.family c.args.buffer.now c.kind.result
    c.value-payload.result.now c.of.result (Some c.in-Some.shape) c.kind.ensures c.value-payload.ensures.value
    c.in-Some.is c.of.ensures) (rw c.value-payload.ensures.value at c.check.ensures)

pub returns-in-None : goal.returns-in-None
returns-in-None c =
    shape_checks c.args.family c.args.buffer.now None (Ok tt)
    (shape_here c.args.family c.args.buffer.now c.kind.result c.value-payload.result.now c.of.result None
    c.kind.ensures c.value-payload.ensures.value c.in-None.is c.of.ensures) refl
