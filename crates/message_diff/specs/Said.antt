-- What a line says, by its words and by the bytes that its digits spell.
use Rattle.std.specs.Prelude.{◌≡◌, ◌⊎◌, ◌||◌, ◌&&◌, not, nat_lt, Bool, true, false, MatchBool, List, [], ◌++◌, ℕ, codes}
use Rattle.std.specs.Prelude.{Option, None, Some, Result, Ok, Err, cond, get_or, length, option_and_then}
use Rattle.std.specs.Char.{digit_value}
use Rattle.std.specs.List.{list_all}
use Rattle.std.specs.Str.Parse.{digits_value, without_leading_plus}
use Rattle.std.specs.Int.{w32}
use Rattle.hex.specs.Hex.{decode_of}
use Rattle.hex.specs.declared.error.FromHexError.{FromHexError}
use Rattle.nla_wire.specs.Fields.{number_at}
use Rattle.link_msg.specs.declared.encoding.CanonError.{CanonError}
use Rattle.line_filter.specs.Words.{value_in, words_of, are_alone, digits_of}
use Rattle.message_diff.specs.declared.key.Key.{Key}
use Rattle.message_diff.specs.declared.snapshot.Compared.{Compared}
use Rattle.message_diff.specs.declared.reading.Sort.{Sort}
use Rattle.message_diff.specs.declared.reading.Sort.TheVariants as Sorts
use Rattle.message_diff.specs.declared.reading.Said.{Said}
use Rattle.message_diff.specs.declared.reading.Said.TheVariants as Saids
use Rattle.message_shown.specs.Contexts.{text_in}
use Rattle.message_shown.specs.Worded.{order_for}
use Rattle.frame_shown.specs.declared.form.Order.TheVariants as Orders
use Rattle.message_diff.specs.Shots.{Shot}
use Rattle.message_diff.specs.Announced.{is_wireless_alone, without_event}
use Rattle.message_diff.specs.Compared.{HasTextBy, IsRefusalAloneBy}
use Rattle.message_diff.specs.Faults.{IsFault, fault_line}
use Rattle.message_diff.specs.Known.{is_text, value_or_nothing, dump_name}

-- ** words

-- the value of a word, or nothing
abbrev pub word_in : List ℕ → List ℕ → List ℕ
word_in key front = value_or_nothing (value_in key (words_of front))

-- whether the word `type` is this
abbrev pub is_type : List ℕ → List ℕ → Bool
is_type front name = is_text (word_in (codes "type") front) name

-- what the word `type` says of a message
abbrev pub sort_of : List ℕ → Sort
sort_of front =
    cond (is_type front (codes "del")) Sorts.Gone
    (cond (is_type front (codes "get") || is_type front (codes "set")) Sorts.Asked Sorts.There)

-- the family that a text is: a number below 256 in decimal digits, with a plus in front or without it
abbrev pub is_numeral : List ℕ → Bool
is_numeral digits = nat_lt 0 (length digits) && list_all (λ digit. nat_lt (digit_value digit) 10) digits

abbrev pub family_of_digits : List ℕ → Option ℕ
family_of_digits digits =
    cond (is_numeral digits && nat_lt (digits_value 10 digits) 256) (Some (digits_value 10 digits)) None

unfoldable pub family_of : List ℕ → Option ℕ
family_of text = family_of_digits (without_leading_plus text)

-- the family that the words say by the first word `family`
unfoldable pub family_in : List ℕ → Option ℕ
family_in front =
    option_and_then family_of (option_and_then text_in (value_in (codes "family") (words_of front)))

-- what words alone say
abbrev pub SaysWords : List ℕ → Said → Type 0
SaysWords front (Saids.Begin dump) = (is_type front (codes "begin") ≡ true) × (dump.items ≡ dump_name (words_of front))
SaysWords front (Saids.Done dump family) =
    (is_type front (codes "done") ≡ true) × (dump.items ≡ dump_name (words_of front)) × (family_in front ≡ Some family)
SaysWords front Saids.Lost = is_type front (codes "lost") ≡ true
SaysWords front Saids.Nothing =
    (is_type front (codes "begin") ≡ false) × (is_type front (codes "lost") ≡ false)
    × (cond (is_type front (codes "done")) (family_in front) None ≡ None)
SaysWords front _ = ⊥

-- ** messages

-- the interface of a message: its family is the first byte of its header, and its index the four from the fifth on
abbrev pub key_in : List ℕ → Option Key
key_in bytes =
    cond (nat_lt (length bytes) 16) None (Some (record { family = get_or bytes 0 0; index = number_at w32 bytes 4 }))

-- what a message says that is accepted, and whether it tells what its interface is
abbrev pub accepted_says : Sort → Bool → Option Key → Shot → Said
accepted_says sort tells None shot = Saids.Blind
accepted_says Sorts.Gone tells (Some key) shot = Saids.Went key (Some shot)
accepted_says Sorts.Asked tells (Some key) shot = Saids.Nothing
accepted_says Sorts.There tells (Some key) shot = cond tells (Saids.Is key shot) Saids.Nothing

-- and one that is refused, which may be of no interface that can be read; what somebody asked for is no link of a dump
abbrev pub refused_says : Sort → Option Key → Said
refused_says Sorts.Asked key = Saids.Nothing
refused_says _ None = Saids.Blind
refused_says Sorts.Gone (Some key) = Saids.Went key None
refused_says Sorts.There (Some key) = Saids.Refused key

-- what is compared of the bytes is this message, in the order of counters of the kernel that the words name, and they
-- say that by it: what a wireless driver announces does not
-- tell what the interface is
pub record SaysAccepted (by : Compared) (front bytes compared : List ℕ) (said : Said) (fault : List ℕ) : Type 0 where
  pub shot : Shot
  pub has : HasTextBy by compared shot.text
  pub order : shot.order ≡ order_for front Orders.Unknown
  pub is : said ≡ accepted_says (sort_of front) (not (is_wireless_alone bytes)) (key_in bytes) shot
  pub none : fault ≡ []

-- what is compared of them is refused, and the line has a fault
pub record SaysRefused (by : Compared) (front bytes compared : List ℕ) (said : Said) (fault : List ℕ) : Type 0 where
  pub error : CanonError
  pub refused : IsRefusalAloneBy by compared error
  pub is : said ≡ refused_says (sort_of front) (key_in bytes)
  pub told : IsFault front bytes error fault

abbrev pub SaysCompared : Compared → List ℕ → List ℕ → List ℕ → Said → List ℕ → Type 0
SaysCompared by front bytes compared said fault =
    SaysAccepted by front bytes compared said fault ⊎ SaysRefused by front bytes compared said fault

-- an IFLA_EVENT is not compared
abbrev pub SaysMessage : Compared → List ℕ → List ℕ → Said → List ℕ → Type 0
SaysMessage by front bytes said fault = SaysCompared by front bytes (without_event bytes) said fault

abbrev pub SaysSpelled : Compared → List ℕ → Result (List ℕ) FromHexError → Said → List ℕ → Type 0
SaysSpelled by front (Ok bytes) said fault = SaysMessage by front bytes said fault
SaysSpelled by front (Err _) said fault =
    (said ≡ refused_says (sort_of front) None) × (fault ≡ fault_line front (codes "not-hex"))

-- what a line says that has these words in front of this rest, and its fault: nothing where it has none
abbrev pub Says : Compared → List ℕ → List ℕ → Said → List ℕ → Type 0
Says by front rest said fault =
    MatchBool (are_alone front rest) (SaysWords front said × (fault ≡ []))
    (SaysSpelled by front (decode_of (digits_of rest)) said fault)

-- it says this, and its fault was added
abbrev pub AddsCompared : Compared → List ℕ → List ℕ → List ℕ → Said → List ℕ → List ℕ → Type 0
AddsCompared by front bytes compared said old new =
    (fault : List ℕ) × SaysCompared by front bytes compared said fault × (new ≡ old ++ fault)

abbrev pub AddsMessage : Compared → List ℕ → List ℕ → Said → List ℕ → List ℕ → Type 0
AddsMessage by front bytes said old new =
    (fault : List ℕ) × SaysMessage by front bytes said fault × (new ≡ old ++ fault)

abbrev pub AddsSays : Compared → List ℕ → List ℕ → Said → List ℕ → List ℕ → Type 0
AddsSays by front rest said old new = (fault : List ℕ) × Says by front rest said fault × (new ≡ old ++ fault)
