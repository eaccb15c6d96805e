-- Lengths of canonical encodings.
use Rattle.std.proofs.Common.{◌≡◌, ◌+◌, ◌<◌, ◌^◌, length, refl, ap, ◌∙◌, length-append, arith}
use Rattle.nla_wire.specs.Canon.{canons}
use Rattle.link_msg.specs.Header.{header_size, header_bytes}
use Rattle.link_msg.specs.Tables.{attribute_frame}
use Rattle.link_msg.specs.Messages.{message_text, MessageFits}
use Rattle.link_msg.specs.declared.header.LinkHeader.{LinkHeader}
use Rattle.link_msg.specs.declared.message.LinkMessage.{LinkMessage}

pub header_length : (v : LinkHeader) → length (header_bytes v) ≡ header_size
unfolding header_bytes
header_length v = refl

pub text_length : (m : LinkMessage)
    → length (message_text m) ≡ header_size + length (canons attribute_frame m.attributes)
text_length m = length-append (header_bytes m.header) (canons attribute_frame m.attributes)
    ∙ ap (λ n. n + length (canons attribute_frame m.attributes)) (header_length m.header)

-- what is after the header is shorter than the machine can count
pub attributes_counted : (m : LinkMessage) → MessageFits m → length (canons attribute_frame m.attributes) < 2 ^ 64
attributes_counted m fits = omega (arith, text_length m, fits.1)
