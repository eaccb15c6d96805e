-- The bytes of a header's buffer.
use Rattle.std.specs.Prelude.{ℕ, List}
use Rattle.link_msg.specs.declared.header.LinkMessageBuffer.{LinkMessageBuffer}

abbrev pub link_message_buffer_bytes : LinkMessageBuffer → List ℕ
link_message_buffer_bytes b = b.bytes
