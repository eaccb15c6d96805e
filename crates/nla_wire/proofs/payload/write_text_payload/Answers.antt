use Rattle.nla_wire.proofs.Agreement.{text_is}
use Rattle.nla_wire.proofs.payload.write_text_payload.Goals as goal

pub write_text-requires : goal.write_text-requires
write_text-requires c =
    let same = text_is c.args.payload.now c.without_nul.result.now c.without_nul.ensures in
    record { small = rw same at c.requires.small; room = rw same at c.requires.room }

pub returns : goal.returns
returns c =
    let same = text_is c.args.payload.now c.without_nul.result.now c.without_nul.ensures in
    rw same c.write_text.ensures
