use Rattle.std.proofs.Common.{rules}
use Rattle.link_msg.proofs.Comparing.{short_text}
use Rattle.link_msg.proofs.encoding.short_encoding.Goals as goal

pub returns : goal.returns
returns c input bytes measured =
    short_text _ input c.args.header.now c.args.rest.now c.args.len measured c.write_message-len.new.out _
    c.write_message-len.result bytes c.write_message-len.ensures (search rules)
