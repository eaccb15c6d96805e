use Rattle.std.proofs.Common.{refl}
use Rattle.link_msg.proofs.LenientWriting.{measured_message, measured_accepted, measured_length}
use Rattle.link_msg.proofs.lenient_encoding.within_kept.Goals as goal

pub returns-then-out-len : goal.returns-then-out-len
returns-then-out-len c = (
  measured_message c.args.input.now c.in_ok-header.header c.in_ok-header.rest.now c.in_ok-header.len
      c.in_ok-header.ensures.ok,
  measured_accepted c.args.input.now c.in_ok-header.header c.in_ok-header.rest.now c.in_ok-header.len
      c.in_ok-header.ensures.ok,
  measured_length c.args.input.now c.in_ok-header.header c.in_ok-header.rest.now c.in_ok-header.len
      c.in_ok-header.ensures.ok,
  c.if-out-len.true,
  refl,
)
