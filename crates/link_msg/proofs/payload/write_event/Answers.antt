use Rattle.std.proofs.Common.{length}
use Rattle.nla_wire.proofs.Written.{nested_room, nested_written}
use Rattle.link_nest.specs.Wireless.{wireless_event, wireless_encoding, WirelessFits}
use Rattle.link_msg.proofs.payload.write_event.Goals as goal

pub returns : goal.returns
returns c =
    nested_written wireless_encoding c.args.kind (wireless_event.reads c.args.payload.now)
    c.args.out.now c.write-len.new.out c.write-len.result c.finish.new.out c.finish.result
    (nested_room wireless_encoding WirelessFits c.args.kind (wireless_event.reads c.args.payload.now)
    (length c.args.out.now) c.requires).1 c.write-len.ensures.reads c.finish.ensures
