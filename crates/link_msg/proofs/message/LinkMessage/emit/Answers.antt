use Rattle.std.proofs.Common.{◌++◌, drop, ap, sym, ◌∙◌}
use Rattle.nla_wire.specs.Canon.{canons}
use Rattle.nla_wire.proofs.Canonical.{write_on}
use Rattle.link_msg.specs.Header.{header_size, header_bytes}
use Rattle.link_msg.specs.Tables.{attribute_frame}
use Rattle.link_msg.specs.Messages.{message_text}
use Rattle.link_msg.proofs.Messaging.{header_length}
use Rattle.link_msg.proofs.message.LinkMessage.emit.Goals as goal

pub returns : goal.returns
returns c =
    let m = c.args.self.now in
    let w = write_on (header_bytes m.header) (canons attribute_frame m.attributes) c.args.buffer.now c.emit.new.buffer
    c.nlas_write-len.new.buffer header_size c.nlas_write-len.result
    (record { length_is = sym (header_length m.header); new_is = c.emit.ensures })
    (rw c.as_slice.ensures at c.nlas_write-len.ensures) in
    w.new_is ∙ ap (λ k. message_text m ++ drop k c.args.buffer.now) w.length_is
