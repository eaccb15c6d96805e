use Rattle.link_msg.proofs.BeforeFault.{front_means, read_before}
use Rattle.link_msg.proofs.message.LinkMessage.parse_before_fault.Goals as goal

pub returns-in-Ok-clause-read : goal.returns-in-Ok-clause-read
returns-in-Ok-clause-read c =
    let header = c.in_ok-header.ensures in
    rw (c.new.ensures)
    (read_before c.args.input.now c.in_ok-header.header c.in_ok-header.rest.now header.0 header.1 header.2
    c.front_of-front.result.0 c.front_of-front.result.1 c.front_of-front.ensures.front c.in-Ok.attributes.items
    c.in-Ok.ensures.found)

pub returns-in-Err-clause-short : goal.returns-in-Err-clause-short
returns-in-Err-clause-short c =
    let some = front_means c.in_ok-header.header.interface_family c.in_ok-header.rest.now c.front_of-front.result.0
    c.front_of-front.result.1 c.front_of-front.ensures.front in
    λ other. absurd (c.in-Err.ensures.refused other some.0 some.1)
