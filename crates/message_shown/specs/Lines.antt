-- What each line is answered, and how the answer to bytes begins.
use Rattle.std.specs.Prelude.{◌≡◌, ℕ, List, [], ◌∷◌, ◌++◌, codes, Result, Ok, Err, MatchBool}
use Rattle.std.specs.List.{flat_map}
use Rattle.hex.specs.Hex.{decode_of}
use Rattle.hex.specs.declared.error.FromHexError.{FromHexError}
use Rattle.json.specs.Token.{Token, begin_object, key, string}
use Rattle.shown.specs.Print.{print}
use Rattle.nla_wire.specs.Frames.{IsBytes}
use Rattle.nla_wire.specs.declared.error.Cause.{Cause}
use Rattle.link_vals.specs.AddressFamilyTable.{address_family_number}
use Rattle.link_msg.specs.Messages.{Means, FirstFault}
use Rattle.link_msg.specs.declared.message.LinkMessage.{LinkMessage}
use Rattle.frame_shown.specs.Messages.{message_members}
use Rattle.message_shown.specs.Causes.{cause_text}
use Rattle.shown.specs.Drafts.{Members, object_of}
use Rattle.shown.specs.Pages.{IsObject}
use Rattle.shown.specs.Values.{numbered}
use Rattle.line_filter.specs.Lines.{with_lf}
use Rattle.line_filter.specs.Words.{are_alone, digits_of, front_of, rest_of}
use Rattle.message_shown.specs.Worded.{strings, words_shown}
use Rattle.message_shown.specs.declared.context.Context.{Context}

-- how an answer begins: the words in front of the line, and a member
abbrev pub head : Members → List ℕ × List Token → List Token
head words member = begin_object ∷ flat_map (λ m. key m.0 ∷ m.1) (words ++ member ∷ [])

-- how the answer begins to bytes that are refused for a cause
abbrev pub fault_member : Cause → List ℕ × List Token
fault_member c = (codes "fault", string (cause_text c) ∷ [])

abbrev pub fault_head : Members → Cause → List Token
fault_head words c = head words (fault_member c)

-- how the answer begins to bytes that mean a message
abbrev pub family_member : LinkMessage → List ℕ × List Token
family_member m = numbered (codes "ifi-family") (address_family_number m.header.interface_family)

abbrev pub message_head : Members → LinkMessage → List Token
message_head words m = head words (family_member m)

-- what a line is answered that spells these bytes, with these words in front of them
pub data IsAnswerTo (words : Members) (bytes answer : List ℕ) : Type 0 where
  fault : (c : Cause) → FirstFault bytes c → IsObject (fault_head words c) answer → IsAnswerTo words bytes answer
  message : (m : LinkMessage) → Means bytes m → IsObject (message_head words m) answer → IsAnswerTo words bytes answer

-- an answer to bytes with words in front of them: the words, the bytes, the answer
abbrev pub Answering : Type 1
Answering = Members → List ℕ → List ℕ → Type 0

-- all bytes have one, whatever the words
abbrev pub AnswersAll : Answering → Type 0
AnswersAll To = (words : List (List ℕ × List ℕ)) (b : List ℕ) → IsBytes b
    → (answer : List ℕ) × To (strings words) b answer

-- the object of these members and no other one
abbrev pub whole_object : Members → List ℕ
whole_object members = print (object_of members)

-- the member that says that a line spells no bytes
abbrev pub nothex_member : List ℕ × List Token
nothex_member = (codes "fault", string (codes "not-hex") ∷ [])

-- a line that is no even number of hexadecimal digits spells no bytes
abbrev pub IsAnswerToSpelled : Answering → Members → Result (List ℕ) FromHexError → List ℕ → Type 0
IsAnswerToSpelled To words (Ok bytes) answer = To words bytes answer
IsAnswerToSpelled To words (Err _) answer = answer ≡ whole_object (words ++ nothex_member ∷ [])

-- what a line with these words and this rest is answered: words alone are no message, and are shown alone
abbrev pub IsAnswerOf : Answering → List ℕ → List ℕ → List ℕ → Type 0
IsAnswerOf To front rest answer = MatchBool (are_alone front rest) (answer ≡ whole_object (words_shown front))
    (IsAnswerToSpelled To (words_shown front) (decode_of (digits_of rest)) answer)

-- what a line is answered
abbrev pub IsAnswer : Answering → List ℕ → List ℕ → Type 0
IsAnswer To line answer = IsAnswerOf To (front_of line) (rest_of line) answer

-- the answer to a line that spells these bytes was added
abbrev pub AddsAnswerTo : Answering → Members → List ℕ → List ℕ → List ℕ → Type 0
AddsAnswerTo To words bytes old new = (answer : List ℕ) × To words bytes answer × (new ≡ old ++ with_lf answer)

-- and to digits
abbrev pub AddsSpelled : Answering → Members → List ℕ → List ℕ → List ℕ → Type 0
AddsSpelled To words digits old new =
    (answer : List ℕ) × IsAnswerToSpelled To words (decode_of digits) answer × (new ≡ old ++ with_lf answer)

-- and to what stands in a line
abbrev pub AddsAnswerOf : Answering → List ℕ → List ℕ → List ℕ → List ℕ → Type 0
AddsAnswerOf To front rest old new = (answer : List ℕ) × IsAnswerOf To front rest answer × (new ≡ old ++ with_lf answer)

-- ** which tokens are added

-- the answer to bytes that mean a message, with the words in front of them
unfoldable pub message_line : Members → Context → List ℕ → List ℕ
message_line words cx bytes = print (object_of (words ++ message_members cx.around bytes))

-- where the bytes mean a message, its answer was added
abbrev pub TellsMessage : Members → Context → List ℕ → List ℕ → List ℕ → Type 0
TellsMessage words cx bytes old new =
    (m : LinkMessage) → Means bytes m → new ≡ old ++ with_lf (message_line words cx bytes)

-- what is added for bytes with words in front of them: the words, what they are shown by, the bytes, old and new
abbrev pub Telling : Type 1
Telling = Members → Context → List ℕ → List ℕ → List ℕ → Type 0
