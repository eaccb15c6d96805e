-- The text of tokens: that of the toolchain's crate `json`, but for characters that show nothing, or that turn what
-- stands beside them. These have escapes too.
use Rattle.std.specs.Prelude.{ℕ, zero, suc, ◌+◌, ◌/◌, ◌%◌, ◌==◌, ◌&&◌, ◌||◌, List, [], ◌∷◌, ◌++◌, Bool, true, false}
use Rattle.std.specs.Prelude.{cond}
use Rattle.std.specs.Prelude.{get_or, nat_lt}
use Rattle.std.specs.Char.{digit_char}
use Rattle.std.specs.Int.{is_in_range}
unfoldable pub use Rattle.json.specs.Print.{escape_byte, ArePrintable}
pub use Rattle.json.specs.Print.{begins, ends, ends_value, escape_letter, separator, IsNumber, IsPrintable}
use Rattle.json.specs.Token.{Token, begin_object, end_object, begin_array, end_array, key, string, number, boolean}
use Rattle.json.specs.Token.{null, bad}

-- ** characters

-- DEL and the controls above it, the separators of lines and paragraphs, and what turns the direction of a text
abbrev pub is_unseen : ℕ → Bool
is_unseen c =
    is_in_range 0x7f 0x9f c || (c == 0x61c) || is_in_range 0x200e 0x200f c || is_in_range 0x2028 0x202e c
    || is_in_range 0x2066 0x2069 c

-- such a character whose UTF-8 begins with these bytes, where a byte behind a text's end is 0; and 0 where none does
abbrev pub unseen : ℕ → ℕ → ℕ → ℕ
unseen x y z =
    cond (x == 0x7f) 0x7f
    (cond ((x == 0xc2) && is_in_range 0x80 0x9f y) y
    (cond ((x == 0xd8) && (y == 0x9c)) 0x61c
    (cond ((x == 0xe2) && (y == 0x80) && (is_in_range 0x8e 0x8f z || is_in_range 0xa8 0xae z)) (0x1f80 + z)
    (cond ((x == 0xe2) && (y == 0x81) && is_in_range 0xa6 0xa9 z) (0x1fc0 + z) 0))))

-- the one that a text begins with
abbrev pub unseen_in : List ℕ → ℕ
unseen_in text = unseen (get_or text 0 0) (get_or text 1 0) (get_or text 2 0)

-- how many bytes a character has behind its first one
abbrev pub bytes_behind : ℕ → ℕ
bytes_behind c = cond (nat_lt c 0x80) 0 (cond (nat_lt c 0x800) 1 2)

-- ** escapes

abbrev pub unicode_escape : ℕ → List ℕ
unicode_escape c =
    92 ∷ 117 ∷ digit_char (c / 4096) ∷ digit_char (c / 256 % 16) ∷ digit_char (c / 16 % 16) ∷ digit_char (c % 16) ∷ []

-- what stands for such a character; where there is none, for the byte x
abbrev pub escape_first : ℕ → ℕ → List ℕ
escape_first zero x = escape_byte x
escape_first (suc c) x = unicode_escape (suc c)

-- a text with its escapes, without its first n bytes
unfoldable pub escape_from : ℕ → List ℕ → List ℕ
escape_from n [] = []
escape_from zero (x ∷ text) =
    escape_first (unseen_in (x ∷ text)) x ++ escape_from (bytes_behind (unseen_in (x ∷ text))) text
escape_from (suc n) (x ∷ text) = escape_from n text

abbrev pub escape : List ℕ → List ℕ
escape text = escape_from 0 text

-- ** tokens

abbrev pub quoted : List ℕ → List ℕ
quoted text = 34 ∷ (escape text ++ 34 ∷ [])

-- a key has its colon
abbrev pub token_text : Token → List ℕ
token_text begin_object = 123 ∷ []
token_text end_object = 125 ∷ []
token_text begin_array = 91 ∷ []
token_text end_array = 93 ∷ []
token_text (key s) = quoted s ++ 58 ∷ []
token_text (string s) = quoted s
token_text (number s) = s
token_text (boolean true) = 116 ∷ 114 ∷ 117 ∷ 101 ∷ []
token_text (boolean false) = 102 ∷ 97 ∷ 108 ∷ 115 ∷ 101 ∷ []
token_text null = 110 ∷ 117 ∷ 108 ∷ 108 ∷ []
token_text bad = []

-- tokens, after a value or not
unfoldable pub print_from : Bool → List Token → List ℕ
print_from after_value [] = []
print_from after_value (t ∷ ts) = separator after_value t ++ (token_text t ++ print_from (ends t) ts)

abbrev pub print : List Token → List ℕ
print = print_from false
