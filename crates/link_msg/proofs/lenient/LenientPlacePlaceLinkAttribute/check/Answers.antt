use Rattle.link_msg.specs.Tables.{attribute_place}
use Rattle.link_msg.proofs.Leniently.{kept_checks}
use Rattle.link_msg.proofs.lenient.LenientPlacePlaceLinkAttribute.check.Goals as goal

pub returns : goal.returns
returns c = kept_checks c.args.self.now.family c.args._buffer.now
    ((attribute_place c.args.self.now.family).reads c.args._buffer.now)
