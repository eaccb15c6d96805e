-- What is printed stays on its line.
use Rattle.std.proofs.Common.{◌≡◌, ℕ, ℤ, pos, negsuc, zero, suc, ◌/◌, ◌%◌, ◌^◌, ◌<◌, ◌≤◌, Bool, true}
use Rattle.std.proofs.Common.{false, cond, List, [], ◌∷◌, ◌++◌, decimal, refl, sym, subst, arith}
use Rattle.std.specs.Prelude.{nat_lt}
use Rattle.std.specs.List.{All}
use Rattle.std.specs.Fmt.{signed_decimal}
use lib.Signed.{mag}
use Rattle.std.specs.Char.{digit_char}
use Rattle.std.proofs.lemmas.Bool.Decides.{nat_tests}
use Rattle.std.proofs.lemmas.List.Elements.{All-nil, All-cons, All-head, All-tail, All-append, All-from_get_or}
use Rattle.std.proofs.lemmas.Fmt.{decimal_is_IsNumeral, decimal_digit}
use Rattle.std.proofs.lemmas.Str.Parse.{digit_at}
use Rattle.json.specs.Token.{Token, begin_object, end_object, begin_array, end_array, key, string, number, boolean}
use Rattle.json.specs.Token.{null, bad}
use Rattle.shown.specs.Print.{bytes_behind, ends, escape, escape_byte, escape_first, escape_from, escape_letter}
use Rattle.shown.specs.Print.{print_from, quoted, separator, token_text, unseen_in}
use Rattle.shown.specs.Pages.{IsOneLine, IsPlain}

one : (x : ℕ) → 32 ≤ x → IsOneLine (x ∷ [])
one x h = All-cons (λ y. 32 ≤ y) x [] h (All-nil (λ y. 32 ≤ y))

two : (x y : ℕ) → 32 ≤ x → 32 ≤ y → IsOneLine (x ∷ y ∷ [])
two x y h k = All-cons (λ z. 32 ≤ z) x (y ∷ []) h (one y k)

-- ** escapes
pick : (b : Bool) (xs ys : List ℕ) → (b ≡ true → IsOneLine xs) → (b ≡ false → IsOneLine ys) → IsOneLine (cond b xs ys)
pick true xs ys h k = h refl
pick false xs ys h k = k refl

letter_on_line : (x : ℕ) → nat_lt 0 (escape_letter x) ≡ true → 32 ≤ escape_letter x
letter_on_line x h = grind (arith, nat_tests)

digit_on_line : (x : ℕ) → 32 ≤ digit_char x
digit_on_line x = grind (arith, nat_tests)

not_below : (x : ℕ) → nat_lt x 32 ≡ false → 32 ≤ x
not_below x h = grind (arith, nat_tests)

unicode_on_line : (x : ℕ) → IsOneLine (92 ∷ 117 ∷ 48 ∷ 48 ∷ digit_char (x / 16) ∷ digit_char (x % 16) ∷ [])
unicode_on_line x =
    All-append (λ y. 32 ≤ y)
    (92 ∷ 117 ∷ []) (48 ∷ 48 ∷ digit_char (x / 16) ∷ digit_char (x % 16) ∷ []) (two 92 117 (omega arith) (omega arith))
    (All-append (λ y. 32 ≤ y) (48 ∷ 48 ∷ []) (digit_char (x / 16) ∷ digit_char (x % 16) ∷ [])
    (two 48 48 (omega arith) (omega arith)) (two _ _ (digit_on_line (x / 16)) (digit_on_line (x % 16))))

byte_on_line : (x : ℕ) → IsOneLine (escape_byte x)
unfolding escape_byte
byte_on_line x =
    pick (nat_lt 0 (escape_letter x)) _ _ (λ e. two 92 (escape_letter x) (omega arith) (letter_on_line x e))
    (λ _. pick (nat_lt x 32) _ _ (λ _. unicode_on_line x) (λ e. one x (not_below x e)))

first_on_line : (c x : ℕ) → IsOneLine (escape_first c x)
first_on_line zero x = byte_on_line x
first_on_line (suc c) x =
    let d = λ (n : ℕ). digit_on_line n in
    let front : List ℕ = digit_char (suc c / 4096) ∷ digit_char (suc c / 256 % 16) ∷ [] in
    let back : List ℕ = digit_char (suc c / 16 % 16) ∷ digit_char (suc c % 16) ∷ [] in
    All-append (λ y. 32 ≤ y) (92 ∷ 117 ∷ []) (front ++ back) (two 92 117 (omega arith) (omega arith))
    (All-append (λ y. 32 ≤ y) front back
    (two (digit_char (suc c / 4096)) (digit_char (suc c / 256 % 16)) (d (suc c / 4096)) (d (suc c / 256 % 16)))
    (two (digit_char (suc c / 16 % 16)) (digit_char (suc c % 16)) (d (suc c / 16 % 16)) (d (suc c % 16))))

text_on_line : (n : ℕ) (s : List ℕ) → IsOneLine (escape_from n s)
unfolding escape_from
text_on_line zero [] = All-nil (λ y. 32 ≤ y)
text_on_line (suc n) [] = All-nil (λ y. 32 ≤ y)
text_on_line (suc n) (x ∷ s) = text_on_line n s
text_on_line zero (x ∷ s) =
    All-append (λ y. 32 ≤ y) (escape_first (unseen_in (x ∷ s)) x) (escape_from (bytes_behind (unseen_in (x ∷ s))) s)
    (first_on_line (unseen_in (x ∷ s)) x) (text_on_line (bytes_behind (unseen_in (x ∷ s))) s)

quoted_on_line : (s : List ℕ) → IsOneLine (quoted s)
quoted_on_line s = All-cons (λ y. 32 ≤ y) 34 (escape s ++ 34 ∷ []) (omega arith)
    (All-append (λ y. 32 ≤ y) (escape s) (34 ∷ []) (text_on_line 0 s) (one 34 (omega arith)))

-- ** numbers
pub decimal_on_line : (n : ℕ) → n < 2 ^ 64 → IsOneLine (decimal n)
decimal_on_line zero h =
    subst (λ (t : List ℕ). IsOneLine t) (sym (decimal_digit 0 (omega arith))) (one 48 (omega arith))
decimal_on_line (suc n) h =
    All-from_get_or (λ x. 32 ≤ x) (decimal (suc n)) 0 (λ i l.
    let d = digit_at (decimal (suc n)) i (decimal_is_IsNumeral (suc n) h).0.1 l in omega (arith, d.0))

pub signed_on_line : (z : ℤ) → mag z < 2 ^ 63 → IsOneLine (signed_decimal z)
signed_on_line (pos n) h = decimal_on_line n (omega arith)
signed_on_line (negsuc n) h =
    All-cons (λ x. 32 ≤ x) 45 (decimal (suc n)) (omega arith) (decimal_on_line (suc n) (omega arith))

-- ** tokens
token_on_line : (t : Token) → IsPlain t → IsOneLine (token_text t)
token_on_line begin_object h = one 123 (omega arith)
token_on_line end_object h = one 125 (omega arith)
token_on_line begin_array h = one 91 (omega arith)
token_on_line end_array h = one 93 (omega arith)
token_on_line (key s) h = All-append (λ x. 32 ≤ x) (quoted s) (58 ∷ []) (quoted_on_line s) (one 58 (omega arith))
token_on_line (string s) h = quoted_on_line s
token_on_line (number s) h = h
token_on_line (boolean true) h = All-append (λ x. 32 ≤ x) (116 ∷ 114 ∷ []) (117 ∷ 101 ∷ [])
    (two 116 114 (omega arith) (omega arith)) (two 117 101 (omega arith) (omega arith))
token_on_line (boolean false) h = All-cons (λ x. 32 ≤ x) 102 (97 ∷ 108 ∷ 115 ∷ 101 ∷ []) (omega arith)
    (All-append (λ x. 32 ≤ x) (97 ∷ 108 ∷ []) (115 ∷ 101 ∷ []) (two 97 108 (omega arith) (omega arith))
    (two 115 101 (omega arith) (omega arith)))
token_on_line null h = All-append (λ x. 32 ≤ x) (110 ∷ 117 ∷ []) (108 ∷ 108 ∷ [])
    (two 110 117 (omega arith) (omega arith)) (two 108 108 (omega arith) (omega arith))
token_on_line bad h = All-nil (λ y. 32 ≤ y)

comma_on_line : (b : Bool) → IsOneLine (cond b (44 ∷ []) [])
comma_on_line true = one 44 (omega arith)
comma_on_line false = All-nil (λ y. 32 ≤ y)

pub print_on_line : (c : Bool) (ts : List Token) → All IsPlain ts → IsOneLine (print_from c ts)
unfolding print_from
print_on_line c [] h = All-nil (λ y. 32 ≤ y)
print_on_line c (t ∷ ts) h =
    All-append (λ x. 32 ≤ x) (separator c t) (token_text t ++ print_from (ends t) ts) (comma_on_line _)
    (All-append (λ x. 32 ≤ x) (token_text t) (print_from (ends t) ts) (token_on_line t (All-head IsPlain t ts h))
    (print_on_line (ends t) ts (All-tail IsPlain t ts h)))
