-- Lines that spell one message have one answer.
use Rattle.std.proofs.Common.{◌≡◌, ℕ, Bool, true, false, List, [], ◌∷◌, length, length-append, sym, ap, subst}
use Rattle.std.proofs.Common.{◌∙◌, arith}
use Rattle.std.specs.Prelude.{MatchBool, Result, Ok}
use Rattle.std.proofs.lemmas.Bool.Decides.{nat_tests}
use Rattle.std.proofs.lemmas.List.{nil_from_length}
use Rattle.hex.specs.Hex.{decode_of, decode_pairs}
use Rattle.hex.specs.declared.error.FromHexError.{FromHexError}
use Rattle.line_filter.specs.Words.{are_alone, digits_of, front_of, rest_of}
use Rattle.link_msg.specs.Messages.{Means}
use Rattle.link_msg.specs.declared.message.LinkMessage.{LinkMessage}
use Rattle.message_shown.specs.Lines.{IsAnswerToSpelled, whole_object}
use Rattle.message_shown.specs.Meaning.{IsOfMeaning}
use Rattle.message_shown.specs.Whole.{Whole, IsWholeAnswer, ToLine}
use Rattle.message_shown.specs.Worded.{order_for, words_shown}
use Rattle.frame_shown.specs.declared.form.Order.{Order}
use Rattle.message_shown.proofs.Meant.{answers_are_meant}
use Rattle.linkshow.specs.Laws.{AnswersAreMeant, LenientAnswersAreMeant, LinesAreMeant}

-- what no digits spell
abbrev no_bytes : Result (List ℕ) FromHexError
no_bytes = Ok []

no_message : (b : List ℕ) (m : LinkMessage) → no_bytes ≡ Ok b → Means b m → ⊥
no_message b m is means =
    let none : [] ≡ b = cc in
    omega (arith, ap (λ (x : List ℕ). length x) (none ∙ means.2), length-append means.0 means.1, means.3.size)

-- a line of a message is not one of words alone
no_rest : (front rest : List ℕ) → are_alone front rest ≡ true → length rest ≡ 0
no_rest front rest alone = grind (arith, nat_tests, alone)

not_alone : (front rest b : List ℕ) (m : LinkMessage) → decode_of (digits_of rest) ≡ Ok b → Means b m
    → are_alone front rest ≡ true → ⊥
unfolding decode_pairs
not_alone front rest b m spelled means alone =
    no_message b m
    (subst (λ r. decode_of (digits_of r) ≡ Ok b) (nil_from_length rest (no_rest front rest alone)) spelled) means

behind_words : (alone : Bool) (own answer : Type 0) → (alone ≡ true → ⊥) → MatchBool alone own answer → answer
behind_words true own answer none is = absurd (none (λ i. true))
behind_words false own answer none is = is

spelled_is : (To : Whole) (order : Order) (line b x : List ℕ) (m : LinkMessage)
    → decode_of (digits_of (rest_of line)) ≡ Ok b → Means b m → IsWholeAnswer To order line x
    → ToLine To order (front_of line) (words_shown (front_of line)) b x
spelled_is To order line b x m spelled means is =
    let front : List ℕ = front_of line in
    subst (λ (r : Result (List ℕ) FromHexError). IsAnswerToSpelled (ToLine To order front) (words_shown front) r x)
    spelled
    (behind_words (are_alone front (rest_of line)) (x ≡ whole_object (words_shown front))
    (IsAnswerToSpelled (ToLine To order front) (words_shown front) (decode_of (digits_of (rest_of line))) x)
    (not_alone front (rest_of line) b m spelled means) is)

lines_meant : (To : Whole) → IsOfMeaning To → LinesAreMeant To
lines_meant To meant order one two x y s h k =
    let first = spelled_is To order one s.first x s.message s.spelled s.mean.2 h in
    let second = subst (λ f. ToLine To order f (words_shown f) s.second y) (sym s.words)
    (spelled_is To order two s.second y s.message s.again s.mean.3 k) in
    meant (order_for (front_of one) order) first.0 second.0 (words_shown (front_of one)) s.first s.second x y s.message
    first.1 second.1 s.mean s.type_of_link first.2 second.2

pub answers_meant : AnswersAreMeant
answers_meant = lines_meant _ answers_are_meant.strict

pub lenient_answers_meant : LenientAnswersAreMeant
lenient_answers_meant = lines_meant _ answers_are_meant.lenient
