-- The reader of messages returns what the relations say.
use Rattle.nla_wire.specs.Frames.{IsBytes}
use Rattle.nla_wire.specs.Grammar.{Agrees, list}
use Rattle.link_vals.specs.declared.address_family.AddressFamily.{AddressFamily}
use Rattle.link_msg.specs.Tables.{attribute_place, attribute_lawful}
use Rattle.link_msg.specs.Messages.{read_message, message}
use Rattle.link_msg.specs.Lenient.{read_by}
use Rattle.link_msg.proofs.MessagesBy.{agree_by, agrees_by}

pub attributes_agree : (family : AddressFamily) → Agrees IsBytes (list (attribute_place family))
attributes_agree = agree_by attribute_place attribute_lawful

pub message_agrees : Agrees IsBytes message
unfolding read_message read_by
message_agrees = agrees_by attribute_place attribute_lawful
