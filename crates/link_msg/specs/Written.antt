-- What `to_vec` returns of a message.
use Rattle.std.specs.Prelude.{◌≡◌, ℕ, List}
use Rattle.link_msg.specs.Messages.{message_text, MessageFits, NoEmptyPorts}
use Rattle.link_msg.specs.declared.message.LinkMessage.{LinkMessage}
use Rattle.link_msg.specs.declared.encoding.CanonError.{CanonError}
use Rattle.link_msg.specs.declared.encoding.CanonError.TheVariants.{Decode, DoesNotFit, EmptyVfPorts, OutOfMemory}

-- m fits and holds no empty ports, and t is its canonical encoding
pub record IsWhole (m : LinkMessage) (t : List ℕ) : Type 0 where
  pub fits : MessageFits m
  pub ports : NoEmptyPorts m
  pub text : t ≡ message_text m

-- why m is not written; that memory ran out says nothing of it
abbrev pub IsUnwritten : LinkMessage → CanonError → Type 0
IsUnwritten m (Decode e) = ⊥
IsUnwritten m DoesNotFit = MessageFits m → ⊥
IsUnwritten m EmptyVfPorts = MessageFits m × (NoEmptyPorts m → ⊥)
IsUnwritten m OutOfMemory = Unit {0}
