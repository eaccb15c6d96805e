-- How the answer to a line is added.
use Rattle.std.proofs.Common.{◌≡◌, ℕ, Bool, true, false, List, [], ◌∷◌, ◌++◌, refl, sym, ap, subst, ◌∙◌, append_assoc}
use Rattle.std.proofs.Common.{arith, slice_index}
use Rattle.std.proofs.lemmas.List.{get_or_append_left}
use Rattle.std.specs.Prelude.{Result, Ok, Err, OnOk, codes, MatchBool}
use Rattle.std.specs.List.{flat_map}
use Rattle.std.proofs.lemmas.List.Concat.{flat_map-append}
use Rattle.std.proofs.lemmas.List.Sums.{fold-append}
use Rattle.hex.specs.Hex.{decode_of}
use Rattle.hex.specs.declared.error.FromHexError.{FromHexError}
use Rattle.nla_wire.specs.Frames.{Frame}
use Rattle.nla_wire.specs.Grammar.{Grammar}
use Rattle.nla_wire.specs.declared.error.Cause.{Cause}
use Rattle.nla_wire.specs.declared.error.DecodeError.{DecodeError}
use Rattle.link_vals.specs.AddressFamilyTable.{address_family_number}
use Rattle.link_vals.specs.declared.address_family.AddressFamily.{AddressFamily}
use Rattle.link_vals.proofs.Numbers.{address_family_again}
use Rattle.link_msg.specs.Header.{header_of}
use Rattle.link_msg.specs.Lenient.{MeansBy}
use Rattle.link_msg.specs.Messages.{Means, FirstFault}
use Rattle.link_msg.specs.Tables.{attribute_place}
use Rattle.link_msg.specs.declared.attribute.LinkAttribute.{LinkAttribute}
use Rattle.link_msg.specs.declared.header.LinkHeader.{LinkHeader}
use Rattle.link_msg.specs.declared.message.LinkMessage.{LinkMessage}
use Rattle.line_filter.specs.Lines.{with_lf}
use Rattle.line_filter.specs.Words.{are_alone, digits_of, front_of, rest_of}
use Rattle.json.specs.Token.{Token, begin_object, key, string}
use Rattle.shown.specs.Print.{print, print_from, escape_byte, escape_from}
use Rattle.shown.specs.Drafts.{Draft, Members, empty_object, with_value, with_members, object_of}
use Rattle.shown.specs.Pages.{AddsText}
use Rattle.shown.proofs.Drafts.{members_added}
use Rattle.shown.proofs.Pages.{object_found, whole_text}
use Rattle.link_msg.proofs.Reading.{message_agrees}
use Rattle.shown.specs.Values.{numbered}
use Rattle.frame_shown.specs.Messages.{message_members}
use Rattle.message_shown.specs.Causes.{cause_text, cause_members}
use Rattle.message_shown.specs.Faults.{AddsFault}
use Rattle.message_shown.specs.Lines.{Answering, IsAnswer, IsAnswerTo, IsAnswerToSpelled, IsAnswerOf, head}
use Rattle.message_shown.specs.Lines.{TellsMessage, message_line, whole_object}
use Rattle.message_shown.specs.Lines.{AddsAnswerOf, AddsAnswerTo, AddsSpelled}
use Rattle.message_shown.specs.Lines.{fault_member, fault_head, family_member, nothex_member}
use Rattle.message_shown.specs.Whole.{Whole, BeginsAs, TellsAs, IsWholeAnswer, IsWholeAnswerTo, ToLine}
use Rattle.message_shown.specs.Worded.{words_shown}
use Rattle.message_shown.specs.declared.context.Context.{Context}
use Rattle.frame_shown.specs.declared.form.Order.{Order}

-- ** what is added
pub lf_after : (old text mid new : List ℕ) → mid ≡ old ++ text → new ≡ mid ++ 10 ∷ [] → new ≡ old ++ with_lf text
lf_after old text mid new h k = k ∙ ap (λ l. l ++ 10 ∷ []) h ∙ append_assoc old text (10 ∷ [])

-- a page of members begins with the first of them
pub begins : (words more : Members) (member : List ℕ × List Token) (page : Draft)
    → page ≡ with_members (words ++ member ∷ more) empty_object
    → page.tokens ≡ head words member ++ flat_map (λ m. key m.0 ∷ m.1) more
begins words more member page is =
    let tokens = λ (ms : Members). flat_map (λ (m : List ℕ × List Token). key m.0 ∷ m.1) ms in
    ap (λ (d : Draft). d.tokens) (is ∙ members_added (words ++ member ∷ more) (begin_object ∷ []) [])
    ∙ ap (λ (l : List Token). begin_object ∷ l) (ap tokens (sym (append_assoc words (member ∷ []) more))
    ∙ flat_map-append (λ m. key m.0 ∷ m.1) (words ++ member ∷ []) more)

-- the first byte is the family, whatever is read behind the header
module _ (place : AddressFamily → Grammar Frame LinkAttribute) (b : List ℕ) (m : LinkMessage)
    (means : MeansBy place b m) where
  pub family_is : slice_index b 0 ≡ address_family_number m.header.interface_family
  unfolding header_of
  family_is =
      ap (λ x. slice_index x 0) means.2
      ∙ get_or_append_left means.0 means.1 0 0 (omega (arith, means.3.size))
      ∙ sym (address_family_again (slice_index means.0 0))
      ∙ ap (λ (v : LinkHeader). address_family_number v.interface_family) (sym means.3.says)

  -- a page that begins with that byte
  pub family_begins : (words more : Members) (page : Draft)
      → page ≡ with_members (words ++ numbered (codes "ifi-family") (slice_index b 0) ∷ more) empty_object
      → page ≡ with_members (words ++ family_member m ∷ more) empty_object
  family_begins words more page is =
      is ∙ ap (λ n. with_members (words ++ numbered (codes "ifi-family") n ∷ more) empty_object) family_is

pub adds_message : (cx : Context) (words : Members) (page : Draft) (bytes old mid new : List ℕ)
    → (m : LinkMessage) × Means bytes m
    → page ≡ with_members (words ++ message_members cx.around bytes) empty_object
    → AddsText page old mid → new ≡ mid ++ 10 ∷ [] → AddsAnswerTo (IsWholeAnswerTo cx) words bytes old new
unfolding message_line
adds_message cx words page bytes old mid new (m, means) is s k = (
  s.0,
  IsWholeAnswerTo.message m means
      (object_found page (head words (family_member m)) _ s.0
      (begins words _ (family_member m) page (family_begins attribute_place bytes m means words _ page is)) s.1)
      (whole_text (words ++ message_members cx.around bytes) page s.0 is s.1),
  lf_after old s.0 mid new s.2 k,
)

-- ** members one after the other
pub members_then : (words ms more : Members) (member : List ℕ × List Token) (first worded named page : Draft)
    → first ≡ empty_object → worded ≡ with_members words first → named ≡ with_value member.0 member.1 worded
    → page ≡ with_members more (with_members ms named)
    → page ≡ with_members (words ++ member ∷ (ms ++ more)) empty_object
members_then words ms more member first worded named page e w n is =
    is ∙ ap (λ (d : Draft). with_members more (with_members ms d))
    (n ∙ ap (λ (d : Draft). with_value member.0 member.1 d) (w ∙ ap (with_members words) e))
    ∙ sym (fold-append (λ (p : Draft) m. with_value m.0 m.1 p)
    (with_value member.0 member.1 (with_members words empty_object)) ms more)
    ∙ sym (fold-append (λ (p : Draft) m. with_value m.0 m.1 p) empty_object words (member ∷ (ms ++ more)))

-- members behind those of words
pub words_then : (words ms : Members) (first worded page : Draft) → first ≡ empty_object
    → worded ≡ with_members words first → page ≡ with_members ms worded
    → page ≡ with_members (words ++ ms) empty_object
words_then words ms first worded page e w is =
    is ∙ ap (with_members ms) (w ∙ ap (with_members words) e)
    ∙ sym (fold-append (λ (p : Draft) m. with_value m.0 m.1 p) empty_object words ms)

-- ** of a fault
pub adds_fault : (cx : Context) (words : Members) (text : List ℕ) (e : DecodeError) (first worded named page : Draft)
    (bytes old mid new : List ℕ) → FirstFault bytes e.cause → text ≡ cause_text e.cause → first ≡ empty_object
    → worded ≡ with_members words first → named ≡ with_value (codes "fault") (string text ∷ []) worded
    → AddsFault cx bytes e named page → AddsText page old mid → new ≡ mid ++ 10 ∷ []
    → AddsAnswerTo (IsWholeAnswerTo cx) words bytes old new
adds_fault cx words text e first worded named page bytes old mid new fault same empty w n adds s k =
    let ms : Members = (codes "at", string adds.0 ∷ []) ∷ cause_members e.cause in
    let told : named ≡ with_value (codes "fault") (string (cause_text e.cause) ∷ []) worded =
    n ∙ ap (λ t. with_value (codes "fault") (string t ∷ []) worded) same in
    let all = members_then words ms adds.1 (fault_member e.cause) first worded named page empty w told adds.2 in (
      s.0,
      IsWholeAnswerTo.fault e.cause fault
          (object_found page (fault_head words e.cause) _ s.0
          (begins words (ms ++ adds.1) (fault_member e.cause) page all) s.1)
          (ms ++ adds.1) (adds.0, adds.1, adds.3 fault, refl)
          (whole_text (words ++ fault_member e.cause ∷ (ms ++ adds.1)) page s.0 all s.1),
      lf_after old s.0 mid new s.2 k,
    )

-- ** of digits
pub adds_spelled : (To : Answering) (words : Members) (digits room old new : List ℕ) → decode_of digits ≡ Ok room
    → AddsAnswerTo To words room old new → AddsSpelled To words digits old new
adds_spelled To words digits room old new h s =
    (s.0, subst (λ (t : Result (List ℕ) FromHexError). IsAnswerToSpelled To words t s.0) (sym h) s.1, s.2)

-- a page with a member more
pub member_last : (words : Members) (member : List ℕ × List Token) (first worded page : Draft) → first ≡ empty_object
    → worded ≡ with_members words first → page ≡ with_value member.0 member.1 worded
    → page ≡ with_members (words ++ member ∷ []) empty_object
member_last words member first worded page e w is =
    is ∙ ap (λ (d : Draft). with_value member.0 member.1 d) (w ∙ ap (with_members words) e)
    ∙ sym (fold-append (λ (p : Draft) m. with_value m.0 m.1 p) empty_object words (member ∷ []))

pub object_told : (ms : Members) (page : Draft) (old mid new : List ℕ) → page ≡ with_members ms empty_object
    → AddsText page old mid → new ≡ mid ++ 10 ∷ [] → new ≡ old ++ with_lf (whole_object ms)
object_told ms page old mid new is s k =
    lf_after old (print (object_of ms)) mid new (s.2 ∙ ap (λ text. old ++ text) (whole_text ms page s.0 is s.1)) k

pub adds_nothex : (To : Answering) (words : Members) (digits old new : List ℕ) (e : FromHexError)
    → decode_of digits ≡ Err e
    → new ≡ old ++ with_lf (whole_object (words ++ nothex_member ∷ [])) → AddsSpelled To words digits old new
adds_nothex To words digits old new e h s =
    let answer : List ℕ = whole_object (words ++ nothex_member ∷ []) in
    (answer, subst (λ (t : Result (List ℕ) FromHexError). IsAnswerToSpelled To words t answer) (sym h) refl, s)

-- ** of what stands in a line
alone_of : (b : Bool) (P : Type 0) (own answer : List ℕ) → b ≡ true → answer ≡ own → MatchBool b (answer ≡ own) P
alone_of b P own answer is same = subst (λ c. MatchBool c (answer ≡ own) P) (sym is) same

pub adds_alone : (To : Answering) (front rest old new : List ℕ) → are_alone front rest ≡ true
    → new ≡ old ++ with_lf (whole_object (words_shown front)) → AddsAnswerOf To front rest old new
adds_alone To front rest old new alone is =
    let answer : List ℕ = whole_object (words_shown front) in (
      answer,
      alone_of (are_alone front rest) (IsAnswerToSpelled To (words_shown front) (decode_of (digits_of rest)) answer)
          answer answer alone refl,
      is,
    )

pub adds_behind : (To : Answering) (front rest digits old new : List ℕ) → are_alone front rest ≡ false
    → digits ≡ digits_of rest
    → AddsSpelled To (words_shown front) digits old new → AddsAnswerOf To front rest old new
adds_behind To front rest digits old new some is s =
    let spelled : IsAnswerToSpelled To (words_shown front) (decode_of (digits_of rest)) s.0 =
    subst (λ d. IsAnswerToSpelled To (words_shown front) (decode_of d) s.0) is s.1 in (
      s.0,
      subst
          (λ b. MatchBool b (s.0 ≡ whole_object (words_shown front))
          (IsAnswerToSpelled To (words_shown front) (decode_of (digits_of rest)) s.0)) (sym some) spelled,
      s.2,
    )

pub both_ok : {T E : Type 0} (P Q : Type 0) (r : Result T E) → OnOk r P → OnOk r Q → OnOk r (P × Q)
both_ok P Q (Ok x) p q = (p, q)
both_ok P Q (Err e) p q = tt

-- the words are those in front of the line, and the rest stands behind them; what is kept stayed
pub takes_line : (To : Whole) (order after : Order) (line front rest old new : List ℕ)
    → front ≡ front_of line → rest ≡ rest_of line → AddsAnswerOf (ToLine To order front) front rest old new
    → after ≡ order
    → (added : List ℕ) × (((answer : List ℕ) × IsWholeAnswer To order line answer × (added ≡ with_lf answer))
    × (after ≡ order)) × (new ≡ old ++ added)
takes_line To order after line front rest old new f is s same = (
  with_lf s.0,
  (
    (
      s.0,
      subst (λ w. IsAnswerOf (ToLine To order w) w (rest_of line) s.0) f
          (subst (λ r. IsAnswerOf (ToLine To order front) front r s.0) is s.1),
      refl,
    ),
    same,
  ),
  s.2,
)

-- bytes with a fault mean no message
pub means_nothing : (b : List ℕ) (c : Cause) (m : LinkMessage) → FirstFault b c → Means b m → ⊥
means_nothing b c m fault means =
    let clash : Err c ≡ Ok m = sym (message_agrees.refused b c fault) ∙ message_agrees.only b m means in absurd cc

-- ** what follows from a whole answer
pub adds_begun : (To : Whole) (Head : Answering) → BeginsAs To Head → (cx : Context) (words : Members)
    (b old new : List ℕ) → AddsAnswerTo (To cx) words b old new → AddsAnswerTo Head words b old new
adds_begun To Head begin cx words b old new s = (s.0, begin cx words b s.0 s.1, s.2)

pub begins_as : BeginsAs IsWholeAnswerTo IsAnswerTo
begins_as cx words b answer (IsWholeAnswerTo.fault c fault o ms are is) = IsAnswerTo.fault c fault o
begins_as cx words b answer (IsWholeAnswerTo.message m means o is) = IsAnswerTo.message m means o

spelled_begins : (To Head : Answering)
    → ((words : Members) (b answer : List ℕ) → To words b answer → Head words b answer) → (words : Members)
    (bytes : Result (List ℕ) FromHexError) (answer : List ℕ) → IsAnswerToSpelled To words bytes answer
    → IsAnswerToSpelled Head words bytes answer
spelled_begins To Head begin words (Ok b) answer is = begin words b answer is
spelled_begins To Head begin words (Err e) answer is = is

either_words : (b : Bool) (own : Type 0) (P Q : Type 0) → (P → Q) → MatchBool b own P → MatchBool b own Q
either_words true own P Q to is = is
either_words false own P Q to is = to is

pub line_begins : (To : Whole) (Head : Answering) → BeginsAs To Head → (order : Order) (line answer : List ℕ)
    → IsWholeAnswer To order line answer → IsAnswer Head line answer
line_begins To Head begin order line answer =
    let front : List ℕ = front_of line in
    let words : Members = words_shown front in
    either_words (are_alone front (rest_of line)) (answer ≡ whole_object words) _ _
    (spelled_begins (ToLine To order front) Head (λ ms b a h. begin h.0 ms b a h.2) words
    (decode_of (digits_of (rest_of line))) answer)

tells_by : (cx : Context) (words : Members) (b answer old new : List ℕ) → IsWholeAnswerTo cx words b answer
    → new ≡ old ++ with_lf answer → TellsMessage words cx b old new
tells_by cx words b answer old new (IsWholeAnswerTo.fault c fault o ms are is) added n means =
    absurd (means_nothing b c n fault means)
tells_by cx words b answer old new (IsWholeAnswerTo.message m means o is) added n too =
    added ∙ ap (λ t. old ++ with_lf t) is

pub tells_as : TellsAs IsWholeAnswerTo TellsMessage
tells_as cx words b old new s = tells_by cx words b s.0 old new s.1 s.2

-- the answer to a line of digits that spell no bytes, without words
pub not_hex_line : with_lf (whole_object (nothex_member ∷ [])) ≡ codes "{\"fault\":\"not-hex\"}\n"
unfolding print_from escape_from escape_byte
not_hex_line = refl
