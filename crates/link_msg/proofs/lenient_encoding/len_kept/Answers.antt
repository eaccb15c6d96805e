use Rattle.link_msg.proofs.LenientWriting.{measured_message, measured_accepted, measured_length}
use Rattle.link_msg.proofs.lenient_encoding.len_kept.Goals as goal

pub returns : goal.returns
returns c = (
  measured_message c.args.input.now c.in_ok-_header._header c.in_ok-_header._rest.now c.in_ok-_header.len
      c.in_ok-_header.ensures.ok,
  measured_accepted c.args.input.now c.in_ok-_header._header c.in_ok-_header._rest.now c.in_ok-_header.len
      c.in_ok-_header.ensures.ok,
  measured_length c.args.input.now c.in_ok-_header._header c.in_ok-_header._rest.now c.in_ok-_header.len
      c.in_ok-_header.ensures.ok,
)
