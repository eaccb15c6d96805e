use Rattle.std.proofs.Common.{refl}
use Rattle.nla_wire.specs.Reading.{list_of}
use Rattle.link_msg.specs.Lenient.{lenient_place}
use Rattle.link_msg.proofs.LenientPorts.{list_weighed, list_unweighed}
use Rattle.link_msg.proofs.lenient_encoding.weigh.Goals as goal

pub returns-in-Some : goal.returns-in-Some
returns-in-Some c =
    list_weighed c.args.family c.args.bytes.now (list_of (lenient_place c.args.family).reads c.args.bytes.now)
    c.in-Some.len c.holds_no_port.result refl c.in-Some.ensures.reads c.holds_no_port.ensures

pub returns-in-None : goal.returns-in-None
returns-in-None c =
    list_unweighed (list_of (lenient_place c.args.family).reads c.args.bytes.now) c.in-None.ensures.reads
