use Rattle.std.proofs.Common.{◌+◌, refl, arith}
use Rattle.nla_wire.proofs.Canonical.{finished}
use Rattle.nla_wire.proofs.write.finish.Goals as goal

pub returns : goal.returns
returns c =
    let header = rw c.to_u16.ensures at c.write_header.ensures in
    finished c.args.kind c.args.len c.args.out.now c.write_header.new.out c.clear.new.padding (4 + c.args.len)
    c.nla_align-padded.result c.requires.room refl (omega (arith, c.nla_align-padded.ensures)) header c.clear.ensures
