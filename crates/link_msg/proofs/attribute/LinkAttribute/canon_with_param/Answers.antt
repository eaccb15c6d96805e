use Rattle.std.proofs.Common.{None, Some, refl}
use Rattle.nla_wire.specs.Canon.{canon}
use Rattle.nla_wire.proofs.Meant.{means_length, means_written}
use Rattle.link_msg.specs.Tables.{attribute_place, attribute_lawful, attribute_frame, AttributeFits}
use Rattle.link_msg.proofs.attribute.LinkAttribute.canon_with_param.Goals as goal

pub returns-in_default-clause-means : goal.returns-in_default-clause-means
returns-in_default-clause-means c = (
  means_length (attribute_place c.args.family) (attribute_lawful c.args.family).agrees c.args.buffer.now
      c.is_frame.ensures (λ v. (attribute_frame v).payload) AttributeFits None c.in_default.ensures,
  refl,
)

pub returns-clause-means : goal.returns-clause-means
returns-clause-means c =
    let place = attribute_place c.args.family in
    let agrees = (attribute_lawful c.args.family).agrees in
    let measured = means_length place agrees c.args.buffer.now c.is_frame.ensures (λ v. (attribute_frame v).payload)
    AttributeFits (Some c.in-Some._len) c.in-Some.ensures in (
      measured.0,
      measured.1,
      measured.2,
      means_written place agrees c.args.buffer.now c.is_frame.ensures
          (λ v. canon (attribute_frame v)) c.args.out.now c.write_frame.new.out c.write_frame.result
          c.write_frame.ensures
          measured.0 measured.1,
    )
