-- What holds of every answer.
use Rattle.std.specs.Prelude.{◌≡◌, List, Ok, Option, ℕ}
use Rattle.std.specs.Int.{w16}
use Rattle.hex.specs.Hex.{decode_of}
use Rattle.line_filter.specs.Lines as filter
use Rattle.line_filter.specs.declared.error.RunError.{RunError}
use Rattle.line_filter.specs.Words.{digits_of, front_of, rest_of}
use Rattle.linkshow.specs.Lines.{RanToEnd, Stopped}
use Rattle.nla_wire.specs.Fields.{number_at}
use Rattle.nla_wire.specs.declared.error.Cause.{Cause}
use Rattle.link_msg.specs.Lenient.{MeansNoneLeniently}
use Rattle.link_msg.specs.Messages.{FirstFault, MeansNothing}
use Rattle.link_msg.specs.declared.message.LinkMessage.{LinkMessage}
use Rattle.frame_shown.specs.Meaning.{MeanOne}
use Rattle.shown.specs.Drafts.{Members}
use Rattle.shown.specs.Pages.{IsObject}
use Rattle.message_shown.specs.Leniently.{IsLenientAnswerTo}
use Rattle.message_shown.specs.Lines.{Answering, IsAnswer, IsAnswerTo, fault_head}
use Rattle.message_shown.specs.Whole.{Whole, IsWholeAnswer, IsWholeAnswerTo, IsWholeLenientAnswerTo}
use Rattle.frame_shown.specs.declared.form.Order.{Order}

-- behind the words of its line the answer to bytes that mean nothing has the cause of their fault, and no other answer
-- has one there
pub record HasFaults (To : Answering) (None : List ℕ → Type 0) : Type 0 where
  pub refused : (words : Members) (bytes answer : List ℕ) → To words bytes answer → None bytes
      → (c : Cause) × FirstFault bytes c × IsObject (fault_head words c) answer
  pub only : (words : Members) (bytes answer : List ℕ) (c : Cause) → To words bytes answer
      → IsObject (fault_head words c) answer → None bytes

abbrev pub FaultsAreRefusals : Type 0
FaultsAreRefusals = HasFaults IsAnswerTo MeansNothing

abbrev pub LenientFaultsAreRefusals : Type 0
LenientFaultsAreRefusals = HasFaults IsLenientAnswerTo MeansNoneLeniently

-- what a run writes begins so: where it stops, of the answers to all complete lines was written what the error leaves
pub record RunsBegin (To : Whole) (Head : Answering) : Type 0 where
  pub ran : (order : Order) (left left_after held held_after : Option (List ℕ))
      → RanToEnd To order left left_after held held_after
      → filter.RanToEnd (IsAnswer Head) left left_after held held_after
  pub stopped : (order : Order) (e : RunError) (left left_after held held_after : Option (List ℕ))
      → Stopped To order e left left_after held held_after
      → filter.Stopped (IsAnswer Head) e left left_after held held_after

abbrev pub AnswersBegin : Type 0
AnswersBegin = RunsBegin IsWholeAnswerTo IsAnswerTo

abbrev pub LenientAnswersBegin : Type 0
LenientAnswersBegin = RunsBegin IsWholeLenientAnswerTo IsLenientAnswerTo

-- ** what answers are of

-- the lines have the same words in front, and their digits spell bytes that mean one message, with one type of link
pub record SpellOne (one two : List ℕ) : Type 0 where
  pub words : front_of one ≡ front_of two
  pub first : List ℕ
  pub second : List ℕ
  pub message : LinkMessage
  pub spelled : decode_of (digits_of (rest_of one)) ≡ Ok first
  pub again : decode_of (digits_of (rest_of two)) ≡ Ok second
  pub mean : MeanOne first second message
  pub type_of_link : number_at w16 first 2 ≡ number_at w16 second 2

-- such lines have one answer
abbrev pub LinesAreMeant : Whole → Type 0
LinesAreMeant To = (order : Order) (one two x y : List ℕ) → SpellOne one two → IsWholeAnswer To order one x
    → IsWholeAnswer To order two y → x ≡ y

abbrev pub AnswersAreMeant : Type 0
AnswersAreMeant = LinesAreMeant IsWholeAnswerTo

abbrev pub LenientAnswersAreMeant : Type 0
LenientAnswersAreMeant = LinesAreMeant IsWholeLenientAnswerTo
