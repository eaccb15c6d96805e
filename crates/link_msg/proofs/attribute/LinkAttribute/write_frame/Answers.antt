use Rattle.std.proofs.Common.{Some, None, length}
use Rattle.link_msg.proofs.Shaped.{shape_here, shape_room, shape_writes}
use Rattle.link_msg.proofs.attribute.LinkAttribute.write_frame.Goals as goal

pub write-requires-clause-room : goal.write-requires-clause-room
write-requires-clause-room c =
    rw c.kind-in-Some.ensures (rw c.value-payload.ensures.value
    (shape_room c.args.family c.args.buffer.now (Some c.in-Some.shape) (length c.args.out.now) (shape_here c.args.family
    c.args.buffer.now c.kind.result c.value-payload.result.now c.of.result (Some c.in-Some.shape)
    c.kind.ensures c.value-payload.ensures.value c.in-Some.is c.of.ensures) c.is_frame.ensures c.requires))

pub returns-in-Some : goal.returns-in-Some
returns-in-Some c =
    shape_writes c.args.family c.args.buffer.now (Some c.in-Some.shape) c.args.out.now c.write.new.out c.write.result
    (shape_here c.args.family c.args.buffer.now c.kind.result c.value-payload.result.now c.of.result
    (Some c.in-Some.shape) c.kind.ensures c.value-payload.ensures.value c.in-Some.is c.of.ensures)
    c.is_frame.ensures (rw c.kind-in-Some.ensures at (rw c.value-payload.ensures.value at c.write.ensures))

pub write_value-requires-clause-room : goal.write_value-requires-clause-room
write_value-requires-clause-room c =
    rw c.value-payload.ensures.value (shape_room c.args.family c.args.buffer.now None (length c.args.out.now)
    (shape_here c.args.family c.args.buffer.now c.kind.result c.value-payload.result.now c.of.result None
    c.kind.ensures c.value-payload.ensures.value c.in-None.is c.of.ensures) c.is_frame.ensures c.requires)

pub returns-in-None : goal.returns-in-None
returns-in-None c =
    shape_writes c.args.family c.args.buffer.now None c.args.out.now c.write_value.new.out c.write_value.result
    (shape_here c.args.family c.args.buffer.now c.kind.result
    c.value-payload.result.now c.of.result None c.kind.ensures c.value-payload.ensures.value c.in-None.is c.of.ensures)
    c.is_frame.ensures (rw c.kind_with_flags.ensures at (rw c.value-payload.ensures.value at c.write_value.ensures))
