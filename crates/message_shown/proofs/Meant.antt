-- Bytes that mean one message have one answer.
use Rattle.std.proofs.Common.{◌≡◌, ℕ, List, ◌++◌, sym, ap, ◌∙◌}
use Rattle.std.specs.Int.{w16}
use Rattle.nla_wire.specs.Fields.{number_at}
use Rattle.link_msg.specs.Messages.{Means}
use Rattle.link_msg.specs.declared.message.LinkMessage.{LinkMessage}
use Rattle.shown.specs.Drafts.{Members, object_of}
use Rattle.shown.specs.Print.{print}
use Rattle.frame_shown.specs.Meaning.{MeanOne}
use Rattle.frame_shown.proofs.MessagesMeant.{messages_meant}
use Rattle.frame_shown.proofs.Plain.{plain_alike}
use Rattle.message_shown.specs.Contexts.{IsPlain}
use Rattle.message_shown.specs.Lines.{message_line}
use Rattle.message_shown.specs.Meaning.{AnswersAreMeant, IsOfMeaning}
use Rattle.message_shown.specs.Whole.{IsWholeAnswerTo, IsWholeLenientAnswerTo}
use Rattle.message_shown.specs.declared.context.Context.{Context}
use Rattle.frame_shown.specs.declared.form.Order.{Order}
use Rattle.message_shown.proofs.Added.{means_nothing}

line_meant : (order : Order) (cx other : Context) (words : Members) (a b : List ℕ) (m : LinkMessage)
    → IsPlain order cx → IsPlain order other → MeanOne a b m → number_at w16 a 2 ≡ number_at w16 b 2
    → message_line words cx a ≡ message_line words other b
unfolding message_line
line_meant order cx other words a b m own its h kinds =
    ap (λ ms. print (object_of (words ++ ms)))
    ((messages_meant cx.around).whole a b m h kinds ∙ (plain_alike order cx.around other.around own its).whole b)

-- an answer to bytes that mean a message is its line
strict_is : (cx : Context) (words : Members) (b x : List ℕ) (m : LinkMessage) → Means b m
    → IsWholeAnswerTo cx words b x → x ≡ message_line words cx b
strict_is cx words b x m means (IsWholeAnswerTo.fault c fault o ms are is) = absurd (means_nothing b c m fault means)
strict_is cx words b x m means (IsWholeAnswerTo.message n too o is) = is

lenient_is : (cx : Context) (words : Members) (b x : List ℕ) (m : LinkMessage) → Means b m
    → IsWholeLenientAnswerTo cx words b x → x ≡ message_line words cx b
lenient_is cx words b x m means (IsWholeLenientAnswerTo.fault c fault none o ms are is) =
    absurd (means_nothing b c m fault means)
lenient_is cx words b x m means (IsWholeLenientAnswerTo.message n too o is) = is
lenient_is cx words b x m means (IsWholeLenientAnswerTo.part n too nothing o told are is) = absurd (nothing m means)

strict_meant : IsOfMeaning IsWholeAnswerTo
strict_meant order cx other words a b x y m own its h kinds one two =
    strict_is cx words a x m h.2 one
    ∙ line_meant order cx other words a b m own its h kinds
    ∙ sym (strict_is other words b y m h.3 two)

lenient_meant : IsOfMeaning IsWholeLenientAnswerTo
lenient_meant order cx other words a b x y m own its h kinds one two =
    lenient_is cx words a x m h.2 one
    ∙ line_meant order cx other words a b m own its h kinds
    ∙ sym (lenient_is other words b y m h.3 two)

pub answers_are_meant : AnswersAreMeant
answers_are_meant = record { strict = strict_meant; lenient = lenient_meant }
