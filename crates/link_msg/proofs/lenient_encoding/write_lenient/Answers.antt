use Rattle.std.proofs.Common.{◌-◌, length, refl}
use Rattle.nla_wire.specs.Reading.{list_of}
use Rattle.link_msg.specs.Header.{header_size}
use Rattle.link_msg.specs.Lenient.{lenient_place}
use Rattle.link_msg.proofs.LenientWriting.{written_after}
use Rattle.link_msg.proofs.lenient_encoding.write_lenient.Goals as goal

pub returns : goal.returns
returns c =
    written_after c.args.header.now
    (list_of (lenient_place c.args.header.now.interface_family).reads c.args.rest.now) c.args.out.now
    c.emit.new.buffer c.write_members.new.out (length c.emit.new.buffer - header_size) c.write_members.result
    c.emit.ensures refl c.write_members.ensures.reads
