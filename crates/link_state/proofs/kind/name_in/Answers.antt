use Rattle.std.proofs.Common.{◌-◌, arith, length, take}
use Rattle.std.proofs.lemmas.Grind.{common_steps}
use Rattle.nla_wire.specs.Payloads.{IsTextOf}
use Rattle.nla_wire.proofs.Agreement.{text_is}
use Rattle.link_state.proofs.kind.name_in.Goals as goal

pub returns-in-0 : goal.returns-in-0
returns-in-0 c =
    let p = c.args.payload.now in
    let text : IsTextOf p (take (length p - 1) p) = grind (arith, common_steps) in
    text_is p (take (length p - 1) p) text

pub returns-in_default-2 : goal.returns-in_default-2
returns-in_default-2 c =
    let text : IsTextOf c.args.payload.now c.args.payload.now = grind (arith, common_steps) in
    text_is c.args.payload.now c.args.payload.now text
