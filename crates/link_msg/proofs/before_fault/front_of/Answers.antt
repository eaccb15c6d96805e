use Rattle.link_msg.proofs.BeforeFault.{fault_refused, fault_named}
use Rattle.link_msg.proofs.before_fault.front_of.Goals as goal

pub returns-in-Ok-clause-front : goal.returns-in-Ok-clause-front
returns-in-Ok-clause-front c =
    let first = c.in-Some.ensures.first in
    let read = c.in-Ok.ensures.found in
    absurd (fault_refused c.args.family c.args.rest.now c.in-Some.field-0.at first.0 c.in-Some.field-0.frame first.1
    read.0 read.1)

pub returns-in-Err-clause-front : goal.returns-in-Err-clause-front
returns-in-Err-clause-front c =
    let first = c.in-Some.ensures.first in (
      c.in-Some.field-0.frame,
      fault_named c.args.family c.args.rest.now c.in-Some.field-0.at first.0 c.in-Err.error.cause
          c.in-Some.field-0.frame first.1 c.in-Err.ensures.fault,
    )
