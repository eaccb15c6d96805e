-- The words in front of a line: what they are shown as, and the kernel that they name.
use Rattle.std.specs.Prelude.{◌≡◌, ◌⊎◌, ℕ, ◌++◌, ◌+◌, ◌*◌, ◌-◌, ◌==◌, ◌&&◌, ◌||◌, List, [], ◌∷◌, Option, None, Some}
use Rattle.std.specs.Prelude.{Bool, false, cond, codes, drop, map, min, nat_le, nat_lt, take}
use Rattle.std.specs.List.{fold, prefix_len}
use Rattle.hex.specs.Hex.{encode_lower}
use Rattle.json.specs.Token.{string}
use Rattle.line_filter.specs.Words.{words_of, value_in}
use Rattle.shown.specs.Drafts.{Members, list_of}
use Rattle.message_shown.specs.Contexts.{text_in}
use Rattle.message_shown.specs.WordKeys.{answer_keys, is_among, is_member, with_key, written_keys}
use Rattle.frame_shown.specs.declared.form.Order.{Order}
use Rattle.frame_shown.specs.declared.form.Order.TheVariants as Orders

-- a key or a value as a text: bytes that are no UTF-8 by their digits
abbrev pub text_or_digits : List ℕ → Option (List ℕ) → List ℕ
text_or_digits bytes None = encode_lower bytes
text_or_digits bytes (Some text) = text

abbrev pub word_text : List ℕ → List ℕ
word_text bytes = text_or_digits bytes (text_in bytes)

-- a word: its key and its value
abbrev pub Word : Type 0
Word = List ℕ × List ℕ

-- a word that is a member
abbrev pub member_if : Bool → Word → Members
member_if is word = cond is ((word.0, string (word_text word.1) ∷ []) ∷ []) []

-- a word that is none, as it stands in its line
abbrev pub text_unless : Bool → Word → List (List ℕ)
text_unless is word = cond is [] ((word.0 ++ 61 ∷ word.1) ∷ [])

-- the members among words, where the program writes these keys, and the members in front of them have those
abbrev pub members_in : List (List ℕ) → List (List ℕ) → List Word → Members
members_in written keys [] = []
members_in written keys (word ∷ words) =
    member_if (is_member written keys word.0) word
    ++ members_in written (with_key (is_member written keys word.0) word.0 keys) words

-- and the others, as they stand
abbrev pub others_in : List (List ℕ) → List (List ℕ) → List Word → List (List ℕ)
others_in written keys [] = []
others_in written keys (word ∷ words) =
    text_unless (is_member written keys word.0) word
    ++ others_in written (with_key (is_member written keys word.0) word.0 keys) words

-- texts as a list under a name, where there are any
abbrev pub list_shown : List (List ℕ) → Members
list_shown [] = []
list_shown (text ∷ texts) =
    (codes "words", list_of (map (λ t. string (word_text t)) (text ∷ texts))) ∷ []

-- words of an answer whose other keys are these: the members, and behind them a list of the other words
abbrev pub shown_words : List (List ℕ) → List Word → Members
shown_words written words = members_in written [] words ++ list_shown (others_in written [] words)

-- words of linkshow's answers
abbrev pub strings : List Word → Members
strings words = shown_words written_keys words

-- all the words in front of a line
abbrev pub words_shown : List ℕ → Members
words_shown line = strings (words_of line)

-- texts as members of a list
abbrev pub as_items : List (List ℕ) → Members
as_items texts = map (λ t. ([], string (word_text t) ∷ [])) texts

-- ** what follows

-- each of these keys is none of those, and none before it
abbrev pub AreNew : List (List ℕ) → List (List ℕ) → Type 0
AreNew before [] = Unit {0}
AreNew before (key ∷ keys) = (is_among key before ≡ false) × AreNew (before ++ key ∷ []) keys

-- no word has a key of the rest of an answer, and no two members have one
abbrev pub WordsAreApart : Type 0
WordsAreApart = (line : List ℕ) → AreNew answer_keys (map (λ m. m.0) (words_shown line))

-- each word is the next member, or the next text
abbrev pub IsSplit : List Word → Members → List (List ℕ) → Type 0
IsSplit [] ms texts = (ms ≡ []) × (texts ≡ [])
IsSplit (word ∷ words) ms texts =
    ((more : Members) × (ms ≡ (word.0, string (word_text word.1) ∷ []) ∷ more) × IsSplit words more texts)
    ⊎ ((more : List (List ℕ)) × (texts ≡ (word.0 ++ 61 ∷ word.1) ∷ more) × IsSplit words ms more)

-- no word is left out
abbrev pub EachWordIsShown : Type 0
EachWordIsShown = (line : List ℕ) → (ms : Members) × (texts : List (List ℕ)) × IsSplit (words_of line) ms texts
    × (words_shown line ≡ ms ++ list_shown texts)

-- ** releases of a kernel

abbrev pub is_digit : ℕ → Bool
is_digit byte = nat_le 48 byte && nat_le byte 57

abbrev pub digits_len : List ℕ → ℕ
digits_len text = prefix_len is_digit text

-- the number of digits, as far as it is below 9999
abbrev pub number_of : List ℕ → ℕ
number_of digits = fold (λ n digit. min (n * 10 + (digit - 48)) 9999) 0 digits

-- the order of the counters in this release: it changed after 6.12 and before 6.16
abbrev pub order_in : ℕ → ℕ → Order
order_in major minor =
    cond (nat_lt major 6 || (major == 6 && nat_lt minor 13)) Orders.Before
    (cond (major == 6 && nat_lt minor 16) Orders.Unknown Orders.Since)

abbrev pub with_minor : ℕ → List ℕ → Option Order
with_minor major [] = None
with_minor major (digit ∷ digits) = Some (order_in major (number_of (digit ∷ digits)))

abbrev pub after_dot : ℕ → List ℕ → Option Order
after_dot major [] = None
after_dot major (x ∷ rest) = cond (x == 46) (with_minor major (take (digits_len rest) rest)) None

abbrev pub with_major : List ℕ → List ℕ → Option Order
with_major [] rest = None
with_major (digit ∷ digits) rest = after_dot (number_of (digit ∷ digits)) rest

-- the order in the release that a text begins with: two numbers with a dot between them
abbrev pub order_of : List ℕ → Option Order
order_of release = with_major (take (digits_len release) release) (drop (digits_len release) release)

abbrev pub order_or : Option Order → Order
order_or None = Orders.Unknown
order_or (Some order) = order

-- the order that a line says by its first word `kernel`, or another one where it says none
abbrev pub said_or : Option (List ℕ) → Order → Order
said_or None other = other
said_or (Some release) other = order_or (order_of release)

abbrev pub order_for : List ℕ → Order → Order
order_for line other = said_or (value_in (codes "kernel") (words_of line)) other
