use Rattle.nla_wire.specs.Fields.{zero_filled}
use Rattle.nla_wire.proofs.Words.{zeros_after}
use Rattle.nla_wire.proofs.fields.zero_filled_32.Goals as goal

pub returns : goal.returns
unfolding zero_filled
returns c = zeros_after 32 c.min-len.result c.copy_from_slice.new.self c.args.bytes.now
    c.min-len.ensures c.copy_from_slice.ensures.after
