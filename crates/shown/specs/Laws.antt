-- What a reader of JSON makes of the text of tokens, and which characters have escapes in it.
use Rattle.std.specs.Prelude.{◌≡◌, ℕ, ◌≤◌, List, cond, Some, flat_map, encode_utf8}
use lib.Utf8.{encodes}
use Rattle.json.specs.Json.{Json, document, max_depth}
use Rattle.json.specs.Lex.{tokens}
use Rattle.json.specs.Print as json
use Rattle.json.specs.Token.{Token}
use Rattle.json.specs.Tree.{json_tokens, depth, HasNumbers}
use Rattle.shown.specs.Print.{escape, is_unseen, print, unicode_escape, ArePrintable}

-- the text of a value is read as that value
abbrev pub ValuesAreRead : Type 0
ValuesAreRead = (j : Json) → HasNumbers j → depth j ≤ max_depth → document (print (json_tokens j)) ≡ Some j

abbrev pub TokensAreRead : Type 0
TokensAreRead = (ts : List Token) → ArePrintable ts → tokens (print ts) ≡ ts

-- a character as it stands in a string
abbrev pub escape_char : ℕ → List ℕ
escape_char c = cond (is_unseen c) (unicode_escape c) (json.escape (encode_utf8 c))

-- each character of a text stands so
abbrev pub CharactersAreShown : Type 0
CharactersAreShown = (cs : List ℕ) → escape (encodes cs) ≡ flat_map escape_char cs
