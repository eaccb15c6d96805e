-- That an answer is of what bytes mean.
use Rattle.std.specs.Prelude.{◌≡◌, ℕ, Bool, true, false, List, ◌++◌, drop, slice_index, take}
use Rattle.std.specs.Int.{w16}
use Rattle.nla_wire.specs.Fields.{number_at}
use Rattle.nla_wire.specs.Frames.{IsBytes}
use Rattle.nla_wire.specs.declared.error.Cause.{Cause}
use Rattle.link_msg.specs.BeforeFault.{ReadsBefore}
use Rattle.link_msg.specs.Header.{header_size}
use Rattle.link_msg.specs.Lenient.{MeansLeniently}
use Rattle.link_msg.specs.Messages.{Means}
use Rattle.link_msg.specs.declared.message.LinkMessage.{LinkMessage}
use Rattle.shown.specs.Drafts.{Members}
use Rattle.frame_shown.specs.Accepted.{accepted}
use Rattle.frame_shown.specs.Meaning.{MeanOne}
use Rattle.message_shown.specs.Contexts.{IsPlain}
use Rattle.message_shown.specs.Leniently.{accepted_part}
use Rattle.message_shown.specs.Whole.{Whole, IsWholeAnswerTo, IsWholeLenientAnswerTo}
use Rattle.message_shown.specs.declared.context.Context.{Context}
use Rattle.frame_shown.specs.declared.form.Order.{Order}

-- bytes that mean one message have one answer behind the same words and by the same order of counters, where they have
-- one type of link: a message does not tell types without a name apart, and the number is shown
abbrev pub IsOfMeaning : Whole → Type 0
IsOfMeaning To = (order : Order) (cx other : Context) (words : Members) (a b x y : List ℕ) (m : LinkMessage)
    → IsPlain order cx → IsPlain order other → MeanOne a b m → number_at w16 a 2 ≡ number_at w16 b 2
    → To cx words a x → To other words b y → x ≡ y

pub record AnswersAreMeant : Type 0 where
  pub strict : IsOfMeaning IsWholeAnswerTo
  pub lenient : IsOfMeaning IsWholeLenientAnswerTo

-- ** bytes that are no message

-- the header, and the attributes behind it that are shown: all that are accepted, or those in front of a fault
abbrev pub accepted_bytes : Bool → List ℕ → List ℕ
accepted_bytes is_all b = take header_size b ++ accepted is_all (slice_index b 0) (drop header_size b)

pub record AcceptedAreMeant : Type 0 where
  -- they mean the message that b means leniently, without the attributes that are refused
  pub leniently : (b : List ℕ) (m : LinkMessage) → IsBytes b → MeansLeniently b m
      → Means (accepted_bytes true b) (accepted_part b m)
  -- or the message that is read in front of the fault
  pub before : (b : List ℕ) (c : Cause) (m : LinkMessage) → IsBytes b → ReadsBefore b c m
      → Means (accepted_bytes false b) m
