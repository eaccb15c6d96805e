-- Two spellings of one message are shown alike.
use Rattle.std.specs.Prelude.{◌≡◌, ℕ, List, drop, slice_index}
use Rattle.std.specs.Int.{w16}
use Rattle.link_msg.specs.Messages.{Means}
use Rattle.link_msg.specs.declared.message.LinkMessage.{LinkMessage}
use Rattle.nla_wire.specs.Fields.{number_at}
use Rattle.nla_wire.specs.Frames.{IsBytes}
use Rattle.frame_shown.specs.Messages.{attribute_members, message_members}
use Rattle.frame_shown.specs.declared.form.Around.{Around}

-- a and b mean one message
abbrev pub MeanOne : List ℕ → List ℕ → LinkMessage → Type 0
MeanOne a b m = IsBytes a × IsBytes b × Means a m × Means b m

pub record MessagesAreMeant (cx : Around) : Type 0 where
  -- their attributes are shown alike
  pub attributes : (a b : List ℕ) (m : LinkMessage) → MeanOne a b m
      → attribute_members cx (slice_index a 0) (drop 16 a) ≡ attribute_members cx (slice_index b 0) (drop 16 b)
  -- and the whole of them, where they have one type of link: a message does not tell types without a name apart, and
  -- the number is shown
  pub whole : (a b : List ℕ) (m : LinkMessage) → MeanOne a b m → number_at w16 a 2 ≡ number_at w16 b 2
      → message_members cx a ≡ message_members cx b
