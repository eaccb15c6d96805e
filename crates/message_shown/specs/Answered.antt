-- Each line has an answer.
use Rattle.std.proofs.Common.{◌≡◌, ◌⊎◌, inl, inr, ℕ, Bool, true, false, List, [], ◌∷◌, ◌++◌, suc, refl, sym, ap}
use Rattle.std.proofs.Common.{subst, ◌∙◌, ◌^◌, ◌<◌, arith, decimal}
use Rattle.std.proofs.Common.{append_assoc, append-nil, slice_index}
use Rattle.std.specs.Prelude.{Result, Ok, Err, codes, map, MatchBool}
use Rattle.hex.specs.Hex.{decode_of}
use Rattle.hex.specs.Hex as hex
use Rattle.hex.specs.declared.error.FromHexError.{FromHexError}
use Rattle.hex.proofs.HexLemmas.{decode_of-ok}
use Rattle.std.specs.List.{flat_map}
use Rattle.std.proofs.lemmas.List.Concat.{flat_map-append}
use Rattle.json.specs.Token.{Token, begin_array, begin_object, end_array, end_object, key, string, number}
use Rattle.shown.specs.Print.{print}
use Rattle.nla_wire.specs.Frames.{Frame, IsBytes}
use Rattle.nla_wire.specs.Grammar.{Grammar}
use Rattle.nla_wire.specs.declared.error.Cause.{Cause}
use Rattle.nla_wire.proofs.Steps.{bytes_left}
use Rattle.link_vals.specs.AddressFamilyTable.{address_family_of, address_family_number}
use Rattle.link_vals.specs.declared.address_family.AddressFamily.{AddressFamily}
use Rattle.link_vals.proofs.Numbers.{address_family_below}
use Rattle.link_msg.specs.Header.{header_of, IsHeader}
use Rattle.link_msg.specs.declared.header.LinkHeader.{LinkHeader}
use Rattle.link_msg.specs.Lenient.{MeansBy, MeansLeniently, MeansNoneLeniently, lenient_place}
use Rattle.link_msg.specs.Messages.{read_message}
use Rattle.link_msg.specs.Tables.{attribute_place}
use Rattle.link_msg.specs.declared.attribute.LinkAttribute.{LinkAttribute}
use Rattle.link_msg.specs.declared.message.LinkMessage.{LinkMessage}
use Rattle.link_msg.proofs.Leniently.{means_or_not, strict_is_lenient}
use Rattle.link_msg.proofs.Reading.{message_agrees}
use Rattle.line_filter.specs.Lines.{AnswersEach}
use Rattle.shown.specs.Drafts.{Draft, Members}
use Rattle.shown.specs.Pages.{IsPage, IsScalar, IsPlain, IsObject}
use Rattle.shown.specs.declared.page.Nest.TheVariants.{Object, List as Items}
use Rattle.shown.proofs.Pages.{page_begin, page_end, page_new, page_value, page_text, object_found}
use Rattle.message_shown.specs.Causes.{cause_text}
use Rattle.shown.proofs.Lines.{decimal_on_line}
use Rattle.line_filter.specs.Words.{are_alone, digits_of, front_of, rest_of, words_of}
use Rattle.message_shown.specs.Leniently.{IsLenientAnswerTo}
use Rattle.message_shown.specs.Lines.{Answering, AnswersAll, IsAnswer, IsAnswerTo, IsAnswerToSpelled, head}
use Rattle.message_shown.specs.Lines.{whole_object, nothex_member}
use Rattle.message_shown.specs.WordKeys.{is_member, with_key, written_keys}
use Rattle.message_shown.specs.Worded.{Word, word_text, strings, words_shown, list_shown, member_if}
use Rattle.message_shown.specs.Worded.{members_in, others_in}

first_small : (h : List ℕ) → IsBytes h → slice_index h 0 < 2 ^ 64
first_small [] bytes = omega arith
first_small (x ∷ h) bytes = let byte : x < 256 = bytes.0 in omega arith

header_small : (h : List ℕ) (v : LinkHeader) → IsBytes h → IsHeader h v
    → address_family_number v.interface_family < 2 ^ 64
unfolding header_of
header_small h v bytes is =
    let family : v.interface_family ≡ address_family_of (slice_index h 0) =
    ap (λ (x : LinkHeader). x.interface_family) is.says in
    subst (λ (f : AddressFamily). address_family_number f < 2 ^ 64) (sym family)
    (address_family_below (slice_index h 0) 64 (first_small h bytes))

family_small : (place : AddressFamily → Grammar Frame LinkAttribute) (b : List ℕ) (m : LinkMessage) → IsBytes b
    → MeansBy place b m → address_family_number m.header.interface_family < 2 ^ 64
family_small place b m bytes k = header_small k.0 m.header (bytes_left k.0 k.1 (subst IsBytes k.2 bytes)) k.3

-- ** the least answer with words in front
abbrev tokens_of : Members → List Token
tokens_of ms = flat_map (λ m. key m.0 ∷ m.1) ms

two_parts : (ts : List Token) (ms ns : Members) → (ts ++ tokens_of ms) ++ tokens_of ns ≡ ts ++ tokens_of (ms ++ ns)
two_parts ts ms ns =
    append_assoc ts (tokens_of ms) (tokens_of ns)
    ∙ ap (λ l. ts ++ l) (sym (flat_map-append (λ m. key m.0 ∷ m.1) ms ns))

member_page : (is : Bool) (word : Word) (ts : List Token) → IsPage ts Object []
    → IsPage (ts ++ tokens_of (member_if is word)) Object []
member_page true word ts h =
    let value : Token = string (word_text word.1) in
    subst (λ (l : List Token). IsPage l Object []) (append_assoc ts (key word.0 ∷ []) (value ∷ []))
    (page_value ts Object [] word.0 value h (λ _. refl) tt)
member_page false word ts h = subst (λ (l : List Token). IsPage l Object []) (sym (append-nil ts)) h

members_page : (keys : List (List ℕ)) (words : List Word) (ts : List Token) → IsPage ts Object []
    → IsPage (ts ++ tokens_of (members_in written_keys keys words)) Object []
members_page keys [] ts h = subst (λ (l : List Token). IsPage l Object []) (sym (append-nil ts)) h
members_page keys (word ∷ words) ts h =
    let is : Bool = is_member written_keys keys word.0 in
    let more : List (List ℕ) = with_key is word.0 keys in
    subst (λ (l : List Token). IsPage l Object [])
    (two_parts ts (member_if is word) (members_in written_keys more words))
    (members_page more words (ts ++ tokens_of (member_if is word)) (member_page is word ts h))

items_page : (texts : List (List ℕ)) (ts : List Token) → IsPage ts Items (Object ∷ [])
    → IsPage (ts ++ map (λ t. string (word_text t)) texts) Items (Object ∷ [])
items_page [] ts h = subst (λ (l : List Token). IsPage l Items (Object ∷ [])) (sym (append-nil ts)) h
items_page (text ∷ texts) ts h =
    let value : Token = string (word_text text) in
    subst (λ (l : List Token). IsPage l Items (Object ∷ []))
    (append_assoc ts (value ∷ []) (map (λ t. string (word_text t)) texts))
    (items_page texts (ts ++ value ∷ []) (page_value ts Items (Object ∷ []) [] value h (λ _. refl) tt))

list_page : (texts : List (List ℕ)) (ts : List Token) → IsPage ts Object []
    → IsPage (ts ++ tokens_of (list_shown texts)) Object []
list_page [] ts h = subst (λ (l : List Token). IsPage l Object []) (sym (append-nil ts)) h
list_page (text ∷ texts) ts h =
    let name : List ℕ = codes "words" in
    let items : List Token = map (λ t. string (word_text t)) (text ∷ texts) in
    let begun : List Token = (ts ++ key name ∷ []) ++ begin_array ∷ [] in
    let last : List Token = items ++ end_array ∷ [] in
    subst (λ (l : List Token). IsPage l Object [])
    (append_assoc begun items (end_array ∷ [])
    ∙ append_assoc (ts ++ key name ∷ []) (begin_array ∷ []) last
    ∙ append_assoc ts (key name ∷ []) (begin_array ∷ last)
    ∙ ap (λ l. ts ++ l) (sym (append-nil (key name ∷ begin_array ∷ last))))
    (page_end (begun ++ items) Items Object []
    (items_page (text ∷ texts) begun (page_begin ts Object Items [] name h)))

words_page : (words : List Word) (ts : List Token) → IsPage ts Object []
    → IsPage (ts ++ tokens_of (strings words)) Object []
words_page words ts h =
    let ms : Members = members_in written_keys [] words in
    let texts : List (List ℕ) = others_in written_keys [] words in
    subst (λ (l : List Token). IsPage l Object []) (two_parts ts ms (list_shown texts))
    (list_page texts (ts ++ tokens_of ms) (members_page [] words ts h))

head_page : (words : List (List ℕ × List ℕ)) (name : List ℕ) (t : Token) → IsScalar t → IsPlain t
    → IsPage (head (strings words) (name, t ∷ [])) Object []
head_page words name t s p =
    let before = flat_map (λ m. key m.0 ∷ m.1) (strings words) in
    subst (λ (l : List Token). IsPage l Object [])
    (append_assoc (begin_object ∷ before) (key name ∷ []) (t ∷ [])
    ∙ ap (λ (l : List Token). begin_object ∷ l)
    (sym (flat_map-append (λ m. key m.0 ∷ m.1) (strings words) ((name, t ∷ []) ∷ []))))
    (page_value (begin_object ∷ before) Object [] name t (words_page words (begin_object ∷ []) page_new) s p)

-- the object with no further member
least : (words : List (List ℕ × List ℕ)) (name : List ℕ) (t : Token) → IsScalar t → IsPlain t
    → IsObject (head (strings words) (name, t ∷ [])) (print (head (strings words) (name, t ∷ []) ++ end_object ∷ []))
least words name t s p =
    let tokens = head (strings words) (name, t ∷ []) in
    let page : Draft = record { tokens = tokens; inside = Object; outer = [] } in
    object_found page tokens [] _ (sym (append-nil tokens))
    (page_text page tokens Object refl refl (head_page words name t s p))

by_reading : (words : List (List ℕ × List ℕ)) (b : List ℕ) → IsBytes b → (r : Result LinkMessage Cause)
    → read_message b ≡ r → (answer : List ℕ) × IsAnswerTo (strings words) b answer
by_reading words b bytes (Ok m) is = (
  _,
  IsAnswerTo.message m (message_agrees.found b m bytes is)
      (least words (codes "ifi-family") (number (decimal (address_family_number m.header.interface_family)))
      (λ _. refl) (decimal_on_line _ (family_small attribute_place b m bytes (message_agrees.found b m bytes is)))),
)
by_reading words b bytes (Err c) is = (
  _,
  IsAnswerTo.fault c (message_agrees.fault b c bytes is)
      (least words (codes "fault") (string (cause_text c)) (λ _. refl) tt),
)

pub all_answered : AnswersAll IsAnswerTo
all_answered words b bytes = by_reading words b bytes (read_message b) refl

-- ** what is read leniently

by_fault : (words : List (List ℕ × List ℕ)) (b : List ℕ) → IsBytes b → MeansNoneLeniently b
    → (r : Result LinkMessage Cause) → read_message b ≡ r
    → (answer : List ℕ) × IsLenientAnswerTo (strings words) b answer
by_fault words b bytes none (Ok m) is =
    absurd (none m (strict_is_lenient b m (message_agrees.found b m bytes is)))
by_fault words b bytes none (Err c) is = (
  _,
  IsLenientAnswerTo.fault c (message_agrees.fault b c bytes is) none
      (least words (codes "fault") (string (cause_text c)) (λ _. refl) tt),
)

by_lenient_reading : (words : List (List ℕ × List ℕ)) (b : List ℕ) → IsBytes b
    → ((m : LinkMessage) × MeansLeniently b m) ⊎ MeansNoneLeniently b
    → (answer : List ℕ) × IsLenientAnswerTo (strings words) b answer
by_lenient_reading words b bytes (inl (m, means)) = (
  _,
  IsLenientAnswerTo.message m means
      (least words (codes "ifi-family") (number (decimal (address_family_number m.header.interface_family)))
      (λ _. refl) (decimal_on_line _ (family_small lenient_place b m bytes means))),
)
by_lenient_reading words b bytes (inr none) = by_fault words b bytes none (read_message b) refl

pub all_answered_leniently : AnswersAll IsLenientAnswerTo
all_answered_leniently words b bytes = by_lenient_reading words b bytes (means_or_not b bytes)

-- ** of a line

-- the bytes that digits spell are bytes
spelled_bytes : (b : List ℕ) → hex.IsBytes b → IsBytes b
spelled_bytes [] h = tt
spelled_bytes (x ∷ b) h = (h 0, spelled_bytes b (λ i. h (suc i)))

by_spelling : (To : Answering) → AnswersAll To → (words : List (List ℕ × List ℕ)) (digits : List ℕ)
    (r : Result (List ℕ) FromHexError) → decode_of digits ≡ r
    → (answer : List ℕ) × IsAnswerToSpelled To (strings words) (decode_of digits) answer
by_spelling To all words digits (Ok b) is =
    let some = all words b (spelled_bytes b (decode_of-ok digits b is).3) in (
      some.0,
      subst (λ (t : Result (List ℕ) FromHexError). IsAnswerToSpelled To (strings words) t some.0) (sym is) some.1,
    )
by_spelling To all words digits (Err e) is =
    let answer : List ℕ = whole_object (strings words ++ nothex_member ∷ []) in (
      answer,
      subst (λ (t : Result (List ℕ) FromHexError). IsAnswerToSpelled To (strings words) t answer) (sym is) refl,
    )

by_words : (b : Bool) (alone : List ℕ) (P : List ℕ → Type 0) → (answer : List ℕ) × P answer
    → (answer : List ℕ) × MatchBool b (answer ≡ alone) (P answer)
by_words true alone P some = (alone, refl)
by_words false alone P some = some

pub each_answered : (To : Answering) → AnswersAll To → AnswersEach (IsAnswer To)
each_answered To all line =
    let front : List ℕ = front_of line in
    let digits : List ℕ = digits_of (rest_of line) in
    by_words (are_alone front (rest_of line)) (whole_object (words_shown front))
    (IsAnswerToSpelled To (words_shown front) (decode_of digits))
    (by_spelling To all (words_of front) digits (decode_of digits) refl)
