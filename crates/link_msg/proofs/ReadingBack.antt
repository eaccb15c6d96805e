-- What a message means is what its canonical encoding means.
use Rattle.std.proofs.Common.{ℕ, List}
use Rattle.nla_wire.specs.Frames.{IsBytes}
use Rattle.link_msg.specs.Tables.{attribute_place, attribute_lawful}
use Rattle.link_msg.specs.Messages.{Means, message_text, MessageFits, NoEmptyPorts}
use Rattle.link_msg.specs.declared.message.LinkMessage.{LinkMessage}
use Rattle.link_msg.proofs.MessagesBy.{back_by}

pub message_back : (b : List ℕ) (m : LinkMessage) → IsBytes b → Means b m → MessageFits m → NoEmptyPorts m
    → Means (message_text m) m
message_back = back_by attribute_place attribute_lawful
