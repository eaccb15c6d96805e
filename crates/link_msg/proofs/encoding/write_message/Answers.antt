use Rattle.std.proofs.Common.{◌+◌, ◌-◌, arith}
use Rattle.link_msg.proofs.Writing.{begun}
use Rattle.link_msg.proofs.encoding.write_message.Goals as goal

pub returns : goal.returns
returns c =
    c.write_after_prefix.ensures c.args.out.now
    (begun c.args.header.now c.args.rest.now c.args.prefix (16 + c.args.prefix - 16) c.args.out.now c.emit.new.buffer
    c.copy_from_slice.new.self c.requires.begins.within (omega arith) c.emit.ensures c.copy_from_slice.ensures.after)
