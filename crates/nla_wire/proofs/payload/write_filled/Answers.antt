use Rattle.std.proofs.Common.{rules}
use Rattle.nla_wire.proofs.Canonical.{filled_up}
use Rattle.nla_wire.proofs.payload.write_filled.Goals as goal

pub returns : goal.returns
returns c =
    filled_up c.args.payload.now c.args.out.now
    c.write_bytes-len.new.out c.fill.new.self c.args.size c.write_bytes-len.result c.requires.short c.requires.room
    c.write_bytes-len.ensures (c.fill.ensures.after (λ y e. search rules))
