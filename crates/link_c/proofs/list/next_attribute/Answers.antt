use Rattle.std.proofs.Common.{◌<◌, arith, ap, subst, length}
use Rattle.std.proofs.lemmas.List.{take_rest}
use Rattle.nla_wire.specs.Frames.{Begins}
use Rattle.link_c.proofs.Steps.{step_told}
use Rattle.link_c.proofs.list.next_attribute.Goals as goal

pub returns : goal.returns
returns c =
    let frame = c.in_ok-frame.frame in
    let rest = c.in_ok-frame.ensures.0 in
    let begins = subst (λ b. Begins b frame rest) (take_rest c.args.list.now c.args.at.now) c.in_ok-frame.ensures.1 in
    let some : c.args.at.now < length c.args.list.now = omega (arith, c.if-at-list.false) in (
      some,
      step_told c.args.list.now c.args.at.now c.after.result (length c.value.result.now) c.told.result frame rest
          some begins c.told.ensures (ap length c.value.ensures.value) c.after.ensures,
    )
