-- What is printed is read back, as by the toolchain's crate `json`: both texts have the same lexemes.
use Rattle.std.proofs.Common.{◌≡◌, ◌≢◌, ℕ, zero, suc, ◌+◌, ◌*◌, ◌/◌, ◌%◌, ◌<◌, ◌≤◌, Bool, true, false, cond, ◌&&◌}
use Rattle.std.proofs.Common.{◌||◌, ◌==◌}
use Rattle.std.proofs.Common.{List, [], ◌∷◌, ◌++◌, Some, inl, inr, ◌⊎◌, refl, sym, ap, ap₂, ◌∙◌, subst, arith}
use Rattle.std.proofs.Common.{append_assoc, append-nil, take, drop, get_or, fold, nat_le, take-append-drop}
use Rattle.std.proofs.Common.{option_and_then}
use Rattle.std.proofs.lemmas.Bool.{and_parts, cases_eq, cases_lt, cond_both, eqb-true, lt-ltb, ne_eqb}
use Rattle.std.proofs.lemmas.Bool.{le-ltb}
use Rattle.std.proofs.lemmas.Bool.{agree_below_at}
use Rattle.std.proofs.lemmas.Bool.Decides.{nat_tests}
use Rattle.std.proofs.lemmas.Str.{digit_value-digit_char, encode_ascii}
use Rattle.std.specs.Char.{digit_char, is_digit, encode_utf8}
use Rattle.std.specs.Int.{is_in_range}
use lib.Utf8.{encode}
use Rattle.json.specs.Json.{Json, document, if_last, max_depth, value}
use Rattle.json.specs.Lex.{Lexeme, Mode, lex, lex_byte, between, colon, comma, in_string, operator, other}
use Rattle.json.specs.Lex.{fresh, punctuate, space, string_token, token, tokens}
use Rattle.json.specs.Print as json
use Rattle.json.specs.Print.{ArePrintable, IsPrintable, begins, ends, escape_byte, print_from as json_print_from}
use Rattle.json.specs.Print.{separator}
use Rattle.json.specs.Text.{content, plain, prepend, code_unit, short_escape}
use Rattle.json.specs.Token.{Token, begin_object, end_object, begin_array, end_array, key, string, number, boolean}
use Rattle.json.specs.Token.{null, bad}
use Rattle.json.specs.Tree.{json_tokens, depth, HasNumbers}
use Rattle.json.specs.Word.{ends_word, is_operator, is_space, word}
use Rattle.json.proofs.Printed.Numbers.{in_word-ended, lex-number}
use Rattle.json.proofs.Printed.Strings.{escape_byte_plain, content-escape as json_content, lex-escape as json_lex}
use Rattle.json.proofs.Printed.Tokens.{tokens-print as json_tokens_print}
pub use Rattle.json.proofs.Printed.Tokens.{ends_push, ArePrintable-push}
use Rattle.json.proofs.Printed.Trees.{ArePrintable-json_tokens, value-json_tokens}
use Rattle.shown.specs.Print.{bytes_behind, escape, escape_first, escape_from, print, print_from, quoted, token_text}
use Rattle.shown.specs.Print.{unicode_escape, unseen_in}

-- ** escapes

-- what both readers make of what stands for some bytes, before any text
pub record Passes (bytes stands : List ℕ) : Type 0 where
  read : (r : List ℕ) → content plain (stands ++ r) ≡ prepend bytes (content plain r)
  lexed : (r : List ℕ) → lex in_string (stands ++ r) ≡ lex in_string r

stays_inside : (o s : Bool) (x : ℕ) (r : List ℕ) (k : Mode → List Lexeme)
    → lex_byte in_string (cond o operator (cond s space other)) x r k ≡ k in_string
stays_inside true s x r k = refl
stays_inside false true x r k = refl
stays_inside false false x r k = refl

byte_inside : (x : ℕ) (r : List ℕ) → (x == 34) ≡ false → (x == 92) ≡ false → lex in_string (x ∷ r) ≡ lex in_string r
unfolding lex
byte_inside x r quote backslash =
    rw (quote, backslash) (stays_inside (is_operator x) (is_space x) x r (λ m. lex m r))

digit_inside : (d : ℕ) (r : List ℕ) → d < 16 → lex in_string (digit_char d ∷ r) ≡ lex in_string r
digit_inside d r small =
    byte_inside (digit_char d) r (agree_below_at (λ d. digit_char d == 34) (λ _. false) 16 d refl small)
    (agree_below_at (λ d. digit_char d == 92) (λ _. false) 16 d refl small)

is_one : (d : ℕ) → d < 16 → is_digit (digit_char d) 16 ≡ true
is_one d small = agree_below_at (λ d. is_digit (digit_char d) 16) (λ _. true) 16 d refl small

unit_is : (a b c d : ℕ) → a < 16 → b < 16 → c < 16 → d < 16
    → code_unit (digit_char a) (digit_char b) (digit_char c) (digit_char d) ≡ Some (a * 4096 + b * 256 + c * 16 + d)
unfolding code_unit
unit_is a b c d p q r s =
    rw (is_one a p, is_one b q, is_one c r, is_one d s)
    (λ i. Some (digit_value-digit_char a (omega arith) i * 4096 + digit_value-digit_char b (omega arith) i * 256
    + digit_value-digit_char c (omega arith) i * 16 + digit_value-digit_char d (omega arith) i))

pub unicode_passes : (c : ℕ) → c < 0xd800 → Passes (encode_utf8 c) (unicode_escape c)
unfolding content lex
unicode_passes c small =
    let whole : c / 4096 * 4096 + c / 256 % 16 * 256 + c / 16 % 16 * 16 + c % 16 ≡ c = omega arith in
    let unit : code_unit (digit_char (c / 4096)) (digit_char (c / 256 % 16)) (digit_char (c / 16 % 16))
    (digit_char (c % 16))
    ≡ Some c =
    unit_is (c / 4096) (c / 256 % 16) (c / 16 % 16) (c % 16) (omega arith) (omega arith) (omega arith) (omega arith)
    ∙ ap Some whole in
    record {
      read = λ r. rw (unit, le_false 0xd800 c small, le_false 0xdc00 c (omega arith)) refl;
      lexed = λ r.
          digit_inside (c / 4096) _ (omega arith) ∙ digit_inside (c / 256 % 16) _ (omega arith)
          ∙ digit_inside (c / 16 % 16) _ (omega arith) ∙ digit_inside (c % 16) r (omega arith);
    }
  where
    le_false : (n c : ℕ) → c < n → nat_le n c ≡ false
    le_false n c h = grind (arith, nat_tests)

abbrev ByteStands : ℕ → Type 0
ByteStands x = Passes (x ∷ []) (escape_byte x)

control_passes : (x : ℕ) → x < 32 → escape_byte x ≡ unicode_escape x → ByteStands x
control_passes x small is =
    subst (λ (t : List ℕ). Passes (x ∷ []) t) (sym is)
    (subst (λ (b : List ℕ). Passes b (unicode_escape x)) (encode_ascii x (omega arith))
    (unicode_passes x (omega arith)))

plain_passes : (x : ℕ) → x ≢ 34 → x ≢ 92 → 32 ≤ x → ByteStands x
unfolding content
plain_passes x q b l =
    let same = escape_byte_plain x q b l in
    record {
      read = λ r. rw (same, ne_eqb x 34 q, ne_eqb x 92 b, le-ltb x 32 l) refl;
      lexed = λ r. rw same (byte_inside x r (ne_eqb x 34 q) (ne_eqb x 92 b));
    }

byte_passes : (x : ℕ) → ByteStands x
unfolding escape_byte content lex short_escape
byte_passes x =
    go (cases_eq x 34) (cases_eq x 92) (cases_eq x 8) (cases_eq x 12) (cases_eq x 10) (cases_eq x 13) (cases_eq x 9)
    (cases_lt x 32)
  where
    go : (x ≡ 34) ⊎ (x ≢ 34) → (x ≡ 92) ⊎ (x ≢ 92) → (x ≡ 8) ⊎ (x ≢ 8) → (x ≡ 12) ⊎ (x ≢ 12)
        → (x ≡ 10) ⊎ (x ≢ 10) → (x ≡ 13) ⊎ (x ≢ 13) → (x ≡ 9) ⊎ (x ≢ 9) → (x < 32) ⊎ (32 ≤ x) → ByteStands x
    go (inl e) b c d f g h l = subst ByteStands (sym e) (record { read = λ r. refl; lexed = λ r. refl })
    go a (inl e) c d f g h l = subst ByteStands (sym e) (record { read = λ r. refl; lexed = λ r. refl })
    go a b (inl e) d f g h l = subst ByteStands (sym e) (record { read = λ r. refl; lexed = λ r. refl })
    go a b c (inl e) f g h l = subst ByteStands (sym e) (record { read = λ r. refl; lexed = λ r. refl })
    go a b c d (inl e) g h l = subst ByteStands (sym e) (record { read = λ r. refl; lexed = λ r. refl })
    go a b c d f (inl e) h l = subst ByteStands (sym e) (record { read = λ r. refl; lexed = λ r. refl })
    go a b c d f g (inl e) l = subst ByteStands (sym e) (record { read = λ r. refl; lexed = λ r. refl })
    go (inr a) (inr b) c d f g h (inr l) = plain_passes x a b l
    go (inr a) (inr b) (inr c) (inr d) (inr f) (inr g) (inr h) (inl l) =
        let top : 0 ≡ x / 4096 = omega arith in
        let second : 0 ≡ x / 256 % 16 = omega arith in
        let third : x / 16 ≡ x / 16 % 16 = omega arith in
        control_passes x l
        (rw (
          ne_eqb x 34 a,
          ne_eqb x 92 b,
          ne_eqb x 8 c,
          ne_eqb x 12 d,
          ne_eqb x 10 f,
          ne_eqb x 13 g,
          ne_eqb x 9 h,
          lt-ltb x 32 l,
        ) (λ i. 92 ∷ 117 ∷ digit_char (top i) ∷ digit_char (second i) ∷ digit_char (third i)
        ∷ digit_char (x % 16) ∷ []))

-- ** characters that are not seen

in_range : (lo hi c : ℕ) → is_in_range lo hi c ≡ true → (lo ≤ c) × (c ≤ hi)
in_range lo hi c h =
    let both = and_parts (nat_le lo c) (nat_le c hi) h in
    let low : lo ≤ c = grind (arith, nat_tests) in
    let high : c ≤ hi = grind (arith, nat_tests) in
    (low, high)

-- its bytes stand in front
abbrev IsFront : ℕ → List ℕ → Type 0
IsFront c (x ∷ s) = (c < 0xd800) × (encode_utf8 c ≡ x ∷ take (bytes_behind c) s)
IsFront c [] = ⊥

abbrev IsFrontOr : ℕ → List ℕ → Type 0
IsFrontOr c text = (c ≡ 0) ⊎ IsFront c text

two_bytes : (c x : ℕ) (s : List ℕ) → 128 ≤ c → c < 2048 → 192 + c / 64 ≡ x → 128 + c % 64 ≡ get_or s 0 0
    → IsFront c (x ∷ s)
unfolding encode
two_bytes c x [] low high first second = absurd (omega arith)
two_bytes c x (y ∷ s) low high first second = (
  omega arith,
  rw (le-ltb c 128 low, lt-ltb c 2048 high) (λ i. first i ∷ second i ∷ []),
)

three_bytes : (c x : ℕ) (s : List ℕ) → 2048 ≤ c → c < 0xd800 → 224 + c / 4096 ≡ x
    → 128 + c / 64 % 64 ≡ get_or s 0 0 → 128 + c % 64 ≡ get_or s 1 0 → IsFront c (x ∷ s)
unfolding encode
three_bytes c x [] low high first second third = absurd (omega arith)
three_bytes c x (y ∷ []) low high first second third = absurd (omega arith)
three_bytes c x (y ∷ z ∷ s) low high first second third = (
  high,
  rw (le-ltb c 128 (omega arith), le-ltb c 2048 low, lt-ltb c 65536 (omega arith))
      (λ i. first i ∷ second i ∷ third i ∷ []),
)

front_is : (x : ℕ) (s : List ℕ) → IsFrontOr (unseen_in (x ∷ s)) (x ∷ s)
unfolding encode
front_is x s =
    cond_both _ _ _ (λ c. IsFrontOr c (x ∷ s))
    (λ e. let is = eqb-true x 0x7f e in inr (omega arith, λ i. sym is i ∷ []))
    (λ _. cond_both _ _ _ (λ c. IsFrontOr c (x ∷ s)) (λ e. inr (second e))
    (λ _. cond_both _ _ _ (λ c. IsFrontOr c (x ∷ s)) (λ e. inr (letter e))
    (λ _. cond_both _ _ _ (λ c. IsFrontOr c (x ∷ s)) (λ e. inr (mark e))
    (λ _. cond_both _ _ _ (λ c. IsFrontOr c (x ∷ s)) (λ e. inr (isolate e)) (λ _. inl refl)))))
  where
    second : ((x == 0xc2) && is_in_range 0x80 0x9f (get_or s 0 0)) ≡ true → IsFront (get_or s 0 0) (x ∷ s)
    second e =
        let both = and_parts (x == 0xc2) _ e in
        let is = eqb-true x 0xc2 both.0 in
        let within = in_range 0x80 0x9f (get_or s 0 0) both.1 in
        two_bytes (get_or s 0 0) x s (omega (arith, within.0)) (omega (arith, within.1))
        (omega (arith, within.0, within.1)) (omega (arith, within.0, within.1))

    letter : ((x == 0xd8) && (get_or s 0 0 == 0x9c)) ≡ true → IsFront 0x61c (x ∷ s)
    letter e =
        let both = and_parts (x == 0xd8) _ e in
        let is = eqb-true x 0xd8 both.0 in
        let next = eqb-true (get_or s 0 0) 0x9c both.1 in
        two_bytes 0x61c x s (omega arith) (omega arith) (omega arith) (omega arith)

    of_three : (c y : ℕ) → x ≡ 0xe2 → get_or s 0 0 ≡ y → 2048 ≤ c → c < 0xd800 → 224 + c / 4096 ≡ 0xe2
        → 128 + c / 64 % 64 ≡ y → 128 + c % 64 ≡ get_or s 1 0 → IsFront c (x ∷ s)
    of_three c y is next low high a b d =
        three_bytes c x s low high (omega arith) (omega arith) d

    mark : ((x == 0xe2) && (get_or s 0 0 == 0x80)
        && (is_in_range 0x8e 0x8f (get_or s 1 0) || is_in_range 0xa8 0xae (get_or s 1 0))) ≡ true
        → IsFront (0x1f80 + get_or s 1 0) (x ∷ s)
    mark e =
        let both = and_parts ((x == 0xe2) && (get_or s 0 0 == 0x80)) _ e in
        let front = and_parts (x == 0xe2) (get_or s 0 0 == 0x80) both.0 in
        let within : (0x80 ≤ get_or s 1 0) × (get_or s 1 0 < 0xc0) = either (get_or s 1 0) both.1 in
        of_three (0x1f80 + get_or s 1 0) 0x80 (eqb-true x 0xe2 front.0) (eqb-true (get_or s 0 0) 0x80 front.1)
        (omega arith) (omega (arith, within.1)) (omega (arith, within.0, within.1))
        (omega (arith, within.0, within.1)) (omega (arith, within.0, within.1))
      where
        either : (z : ℕ) → (is_in_range 0x8e 0x8f z || is_in_range 0xa8 0xae z) ≡ true → (0x80 ≤ z) × (z < 0xc0)
        either z h = by (is_in_range 0x8e 0x8f z) refl h
          where
            by : (b : Bool) → is_in_range 0x8e 0x8f z ≡ b → (b || is_in_range 0xa8 0xae z) ≡ true
                → (0x80 ≤ z) × (z < 0xc0)
            by true is h = let w = in_range 0x8e 0x8f z is in (omega (arith, w.0), omega (arith, w.1))
            by false is h = let w = in_range 0xa8 0xae z h in (omega (arith, w.0), omega (arith, w.1))

    isolate : ((x == 0xe2) && (get_or s 0 0 == 0x81) && is_in_range 0xa6 0xa9 (get_or s 1 0)) ≡ true
        → IsFront (0x1fc0 + get_or s 1 0) (x ∷ s)
    isolate e =
        let both = and_parts ((x == 0xe2) && (get_or s 0 0 == 0x81)) _ e in
        let front = and_parts (x == 0xe2) (get_or s 0 0 == 0x81) both.0 in
        let within = in_range 0xa6 0xa9 (get_or s 1 0) both.1 in
        of_three (0x1fc0 + get_or s 1 0) 0x81 (eqb-true x 0xe2 front.0) (eqb-true (get_or s 0 0) 0x81 front.1)
        (omega arith) (omega (arith, within.1)) (omega (arith, within.0, within.1))
        (omega (arith, within.0, within.1)) (omega (arith, within.0, within.1))

-- what stands for the first byte or character of a text
first_passes : (x : ℕ) (s : List ℕ)
    → Passes (x ∷ take (bytes_behind (unseen_in (x ∷ s))) s) (escape_first (unseen_in (x ∷ s)) x)
first_passes x s = by (unseen_in (x ∷ s)) (front_is x s)
  where
    by : (c : ℕ) → IsFrontOr c (x ∷ s) → Passes (x ∷ take (bytes_behind c) s) (escape_first c x)
    by zero is = byte_passes x
    by (suc c) (inl none) = absurd (omega arith)
    by (suc c) (inr is) =
        subst (λ (b : List ℕ). Passes b (unicode_escape (suc c))) is.1 (unicode_passes (suc c) is.0)

content_from : (n : ℕ) (s r : List ℕ) → content plain (escape_from n s ++ 34 ∷ r) ≡ Some (drop n s)
unfolding content escape_from
content_from zero [] r = refl
content_from (suc n) [] r = refl
content_from (suc n) (x ∷ s) r = content_from n s r
content_from zero (x ∷ s) r =
    let c = unseen_in (x ∷ s) in
    let more = escape_from (bytes_behind c) s in
    ap (content plain) (append_assoc (escape_first c x) more (34 ∷ r))
    ∙ (first_passes x s).read (more ++ 34 ∷ r)
    ∙ ap (prepend (x ∷ take (bytes_behind c) s)) (content_from (bytes_behind c) s r)
    ∙ ap (λ (l : List ℕ). Some (x ∷ l)) (take-append-drop (bytes_behind c) s)

lex_from : (n : ℕ) (s r : List ℕ) → lex in_string (escape_from n s ++ 34 ∷ r) ≡ lex between r
unfolding lex escape_from
lex_from zero [] r = refl
lex_from (suc n) [] r = refl
lex_from (suc n) (x ∷ s) r = lex_from n s r
lex_from zero (x ∷ s) r =
    let c = unseen_in (x ∷ s) in
    let more = escape_from (bytes_behind c) s in
    ap (lex in_string) (append_assoc (escape_first c x) more (34 ∷ r))
    ∙ (first_passes x s).lexed (more ++ 34 ∷ r) ∙ lex_from (bytes_behind c) s r

-- a string behind its first quote is read as it was
pub content-escape : (s r : List ℕ) → content plain (escape s ++ 34 ∷ r) ≡ Some s
content-escape s r = content_from 0 s r

-- ** tokens

lex_string : (stands s r : List ℕ) → content plain (stands ++ 34 ∷ r) ≡ Some s
    → lex in_string (stands ++ 34 ∷ r) ≡ lex between r
    → lex between ((34 ∷ (stands ++ 34 ∷ [])) ++ r) ≡ token (string s) ∷ lex between r
unfolding lex
lex_string stands s r read passed =
    ap (λ l. lex between (34 ∷ l)) (append_assoc stands (34 ∷ []) r)
    ∙ ap₂ (λ o l. token (string_token o) ∷ l) read passed

lex_quoted : (s r : List ℕ) → lex between (quoted s ++ r) ≡ token (string s) ∷ lex between r
lex_quoted s r = lex_string (escape s) s r (content-escape s r) (lex_from 0 s r)

lex_quoted_json : (s r : List ℕ) → lex between (json.quoted s ++ r) ≡ token (string s) ∷ lex between r
lex_quoted_json s r = lex_string (json.escape s) s r (json_content s r) (json_lex s r)

-- behind a value stands a comma, a closing bracket or nothing
abbrev EndsBoth : List Token → Type 0
EndsBoth ts = (ends_word (print_from true ts) ≡ true) × (ends_word (json_print_from true ts) ≡ true)

ends_both : (ts : List Token) → EndsBoth ts
unfolding print_from json_print_from
ends_both [] = (refl, refl)
ends_both (begin_object ∷ ts) = (refl, refl)
ends_both (end_object ∷ ts) = (refl, refl)
ends_both (begin_array ∷ ts) = (refl, refl)
ends_both (end_array ∷ ts) = (refl, refl)
ends_both (key s ∷ ts) = (refl, refl)
ends_both (string s ∷ ts) = (refl, refl)
ends_both (number s ∷ ts) = (refl, refl)
ends_both (boolean b ∷ ts) = (refl, refl)
ends_both (null ∷ ts) = (refl, refl)
ends_both (bad ∷ ts) = (refl, refl)

abbrev SameLexemes : List ℕ → List ℕ → Type 0
SameLexemes a b = lex between a ≡ lex between b

word_lexed : (b : Bool) (r : List ℕ) → ends_word r ≡ true
    → lex between (token_text (boolean b) ++ r) ≡ token (boolean b) ∷ lex between r
unfolding lex word
word_lexed true r ended = ap₂ (λ b l. token (cond b (boolean true) bad) ∷ l) ended (in_word-ended r ended)
word_lexed false r ended = ap₂ (λ b l. token (cond b (boolean false) bad) ∷ l) ended (in_word-ended r ended)

null_lexed : (r : List ℕ) → ends_word r ≡ true → lex between (token_text null ++ r) ≡ token null ∷ lex between r
unfolding lex word
null_lexed r ended = ap₂ (λ b l. token (cond b null bad) ∷ l) ended (in_word-ended r ended)

both_lexed : (a b : List ℕ) (t : Lexeme) (r q : List ℕ) → SameLexemes r q
    → lex between (a ++ r) ≡ t ∷ lex between r → lex between (b ++ q) ≡ t ∷ lex between q
    → SameLexemes (a ++ r) (b ++ q)
both_lexed a b t r q same own alike = own ∙ ap (λ l. t ∷ l) same ∙ sym alike

text_same : (t : Token) (r q : List ℕ) → IsPrintable t
    → (ends t ≡ true → (ends_word r ≡ true) × (ends_word q ≡ true)) → SameLexemes r q
    → SameLexemes (token_text t ++ r) (json.token_text t ++ q)
unfolding lex
text_same begin_object r q h ended same = ap (λ l. token begin_object ∷ l) same
text_same end_object r q h ended same = ap (λ l. token end_object ∷ l) same
text_same begin_array r q h ended same = ap (λ l. token begin_array ∷ l) same
text_same end_array r q h ended same = ap (λ l. token end_array ∷ l) same
text_same (key s) r q h ended same =
    ap (lex between) (append_assoc (quoted s) (58 ∷ []) r)
    ∙ both_lexed (quoted s) (json.quoted s) (token (string s)) (58 ∷ r) (58 ∷ q) (ap (λ l. colon ∷ l) same)
    (lex_quoted s (58 ∷ r)) (lex_quoted_json s (58 ∷ q))
    ∙ sym (ap (lex between) (append_assoc (json.quoted s) (58 ∷ []) q))
text_same (string s) r q h ended same =
    both_lexed (quoted s) (json.quoted s) (token (string s)) r q same (lex_quoted s r) (lex_quoted_json s q)
text_same (number s) r q h ended same =
    both_lexed s s (token (number s)) r q same (lex-number s r h (ended refl).0) (lex-number s q h (ended refl).1)
text_same (boolean true) r q h ended same =
    both_lexed (token_text (boolean true)) (token_text (boolean true)) (token (boolean true)) r q same
    (word_lexed true r (ended refl).0) (word_lexed true q (ended refl).1)
text_same (boolean false) r q h ended same =
    both_lexed (token_text (boolean false)) (token_text (boolean false)) (token (boolean false)) r q same
    (word_lexed false r (ended refl).0) (word_lexed false q (ended refl).1)
text_same null r q h ended same =
    both_lexed (token_text null) (token_text null) (token null) r q same (null_lexed r (ended refl).0)
    (null_lexed q (ended refl).1)
text_same bad r q h ended same = absurd h

comma_same : (b : Bool) (r q : List ℕ) → SameLexemes r q
    → SameLexemes (cond b (44 ∷ []) [] ++ r) (cond b (44 ∷ []) [] ++ q)
unfolding lex
comma_same true r q same = ap (λ l. comma ∷ l) same
comma_same false r q same = same

print_same : (c : Bool) (ts : List Token) → ArePrintable ts → SameLexemes (print_from c ts) (json_print_from c ts)
unfolding print_from json_print_from ArePrintable
print_same c [] h = refl
print_same c (t ∷ ts) h =
    comma_same (c && begins t) _ _
    (text_same t (print_from (ends t) ts) (json_print_from (ends t) ts) h.0 (λ e. at (ends t) e)
    (print_same (ends t) ts h.1))
  where
    at : (b : Bool) → b ≡ true → (ends_word (print_from b ts) ≡ true) × (ends_word (json_print_from b ts) ≡ true)
    at true e = ends_both ts
    at false e = absurd cc

-- the round trip of tokens, and of values
pub tokens-print : (ts : List Token) → ArePrintable ts → tokens (print ts) ≡ ts
tokens-print ts h = ap (punctuate fresh) (print_same false ts h) ∙ json_tokens_print ts h

pub document-print : (j : Json) → HasNumbers j → depth j ≤ max_depth → document (print (json_tokens j)) ≡ Some j
document-print j numbers shallow =
    ap (option_and_then (λ p. if_last p.0 p.1))
    (ap (value max_depth) (tokens-print (json_tokens j) (ArePrintable-json_tokens j numbers)
    ∙ sym (append-nil (json_tokens j)))
    ∙ value-json_tokens j max_depth [] shallow)

-- ** more tokens

pub print_from-append : (c : Bool) (ts us : List Token)
    → print_from c (ts ++ us) ≡ print_from c ts ++ print_from (fold (λ _ t. ends t) c ts) us
unfolding print_from
print_from-append c [] us = refl
print_from-append c (t ∷ ts) us =
    ap (λ l. separator c t ++ (token_text t ++ l)) (print_from-append (ends t) ts us)
    ∙ ap (λ l. separator c t ++ l) (sym (append_assoc (token_text t) _ _)) ∙ sym (append_assoc (separator c t) _ _)

pub print_from_push : (c : Bool) (ts : List Token) (t : Token)
    → print_from c (ts ++ t ∷ []) ≡ print_from c ts ++ (separator (fold (λ _ u. ends u) c ts) t ++ token_text t)
unfolding print_from
print_from_push c ts t =
    print_from-append c ts (t ∷ [])
    ∙ ap (λ l. print_from c ts ++ (separator (fold (λ _ u. ends u) c ts) t ++ l)) (append-nil (token_text t))
