use Rattle.std.proofs.Common.{◌+◌, ◌-◌, arith}
use Rattle.nla_wire.proofs.Bounds.{length-canon}
use Rattle.nla_wire.proofs.Canonical.{finished_part}
use Rattle.link_nest.specs.Wireless.{wireless_encoding}
use Rattle.link_msg.proofs.view.write_event.Goals as goal

pub returns : goal.returns
returns c =
    finished_part c.args.kind (wireless_encoding c.args.event.now) c.args.buffer.now c.emit.new.buffer
    c.buffer_len-len.result (4 + c.buffer_len-len.result - 4) c.finish.new.out c.finish.result
    (omega (
      arith,
      c.requires.room,
      length-canon (record { kind = c.args.kind; payload = wireless_encoding c.args.event.now }),
    )) c.emit.ensures c.buffer_len-len.ensures (omega arith) c.finish.ensures
