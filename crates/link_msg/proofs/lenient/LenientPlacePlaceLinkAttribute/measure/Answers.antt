use Rattle.link_msg.specs.Tables.{attribute_place}
use Rattle.link_msg.proofs.Leniently.{kept_weighs}
use Rattle.link_msg.proofs.lenient.LenientPlacePlaceLinkAttribute.measure.Goals as goal

pub returns-in-Err : goal.returns-in-Err
returns-in-Err c =
    rw c.value.ensures.value (kept_weighs c.args.self.now.family c.args.buffer.now
    ((attribute_place c.args.self.now.family).reads c.args.buffer.now) c.in-Err.field-0.cause c.is_frame.ensures.size
    (rw c.strict-strict.ensures at c.in-Err.ensures))
