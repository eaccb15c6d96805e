use Rattle.std.proofs.Common.{length}
use Rattle.link_msg.specs.Tables.{attribute_place}
use Rattle.link_msg.proofs.Leniently.{kept_room, kept_rewrites}
use Rattle.link_msg.proofs.lenient.LenientPlacePlaceLinkAttribute.write.Goals as goal

pub write_value-requires-clause-room : goal.write_value-requires-clause-room
write_value-requires-clause-room c =
    rw c.value.ensures.value (kept_room c.args.self.now.family c.args.buffer.now
    ((attribute_place c.args.self.now.family).reads c.args.buffer.now) (length c.args.out.now)
    (rw c.strict-strict.ensures at c.in-None.ensures) c.requires)

pub returns-in-None : goal.returns-in-None
returns-in-None c =
    kept_rewrites c.args.self.now.family c.args.buffer.now
    ((attribute_place c.args.self.now.family).reads c.args.buffer.now) (length c.args.out.now) c.args.out.now
    c.write_value.new.out c.write_value.result (rw c.strict-strict.ensures at c.in-None.ensures) c.requires
    (rw c.kind_with_flags.ensures at (rw c.value.ensures.value at c.write_value.ensures))
