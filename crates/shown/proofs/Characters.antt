-- Which characters have escapes.
use Rattle.std.proofs.Common.{◌≡◌, ◌≢◌, ℕ, zero, suc, ◌+◌, ◌-◌, ◌/◌, ◌%◌, ◌<◌, ◌≤◌, Bool, true, false, cond}
use Rattle.std.proofs.Common.{◌&&◌, ◌||◌, ◌==◌}
use Rattle.std.proofs.Common.{List, [], ◌∷◌, ◌++◌, inl, inr, ◌⊎◌, refl, sym, ap, ◌∙◌, arith, append-nil}
use Rattle.std.proofs.Common.{get_or, nat_lt, flat_map}
use Rattle.std.proofs.lemmas.Bool.{agree_below_at, cases_eq, cases_lt, eqb-true, lt-ltb, ne_eqb}
use Rattle.std.proofs.lemmas.Bool.{le-ltb}
use Rattle.std.proofs.lemmas.Bool.Decides.{nat_tests}
use Rattle.std.specs.Char.{encode_utf8}
use Rattle.std.specs.Int.{is_in_range}
use lib.Utf8.{encode, encodes}
use Rattle.json.specs.Print as json
use Rattle.json.specs.Print.{escape_byte}
use Rattle.json.proofs.Printed.Strings.{escape_byte_plain}
use Rattle.shown.specs.Laws.{escape_char}
use Rattle.shown.specs.Print.{bytes_behind, escape, escape_first, escape_from, is_unseen, unicode_escape, unseen}
use Rattle.shown.specs.Print.{unseen_in}

-- what a character is shown as
abbrev shown_as : Bool → ℕ → List ℕ
shown_as b c = cond b (unicode_escape c) (json.escape (encode_utf8 c))

abbrev IsShown : ℕ → List ℕ → Type 0
IsShown c t = escape (encode_utf8 c ++ t) ≡ shown_as (is_unseen c) c ++ escape t

-- ** one that has an escape, and bytes that have none

escape_is : (c x : ℕ) → 0 < c → escape_first c x ≡ unicode_escape c
escape_is zero x some = absurd (omega arith)
escape_is (suc c) x some = refl

escaped : (c x : ℕ) (s t : List ℕ) → unseen_in (x ∷ s) ≡ c → 0 < c → escape_from (bytes_behind c) s ≡ escape t
    → escape (x ∷ s) ≡ unicode_escape c ++ escape t
unfolding escape_from
escaped c x s t is some rest =
    (λ i. escape_first (is i) x ++ escape_from (bytes_behind (is i)) s)
    ∙ (λ i. escape_is c x some i ++ rest i)

high : (x : ℕ) → 128 ≤ x → escape_byte x ≡ x ∷ []
high x h = escape_byte_plain x (λ e. omega arith) (λ e. omega arith) (omega arith)

stands : (x : ℕ) (s : List ℕ) → unseen_in (x ∷ s) ≡ 0 → 128 ≤ x → escape (x ∷ s) ≡ x ∷ escape s
unfolding escape_from
stands x s none h =
    (λ i. escape_first (none i) x ++ escape_from (bytes_behind (none i)) s) ∙ ap (λ l. l ++ escape s) (high x h)

-- a byte behind the first one
behind : (y : ℕ) (s : List ℕ) → 128 ≤ y → y < 192 → escape (y ∷ s) ≡ y ∷ escape s
behind y s low small =
    stands y s
    (rw (
      ne_eqb y 0x7f (λ e. omega arith),
      ne_eqb y 0xc2 (λ e. omega arith),
      ne_eqb y 0xd8 (λ e. omega arith),
      ne_eqb y 0xe2 (λ e. omega arith),
    ) refl) low

-- ** one byte

seen_first : (c : ℕ) → c < 128 → is_unseen c ≡ (c == 0x7f)
seen_first c small = agree_below_at is_unseen (λ c. c == 0x7f) 128 c refl small

one_byte : (c : ℕ) (t : List ℕ) → c < 128 → IsShown c t
unfolding escape_from encode
one_byte c t small =
    ap (λ l. escape (l ++ t)) (ascii c small)
    ∙ go (cases_eq c 0x7f)
  where
    ascii : (c : ℕ) → c < 128 → encode_utf8 c ≡ c ∷ []
    ascii c small = rw (lt-ltb c 128 small) refl

    go : (c ≡ 0x7f) ⊎ (c ≢ 0x7f) → escape (c ∷ t) ≡ shown_as (is_unseen c) c ++ escape t
    go (inl is) = ap (λ x. escape (x ∷ t)) is ∙ sym (ap (λ x. shown_as (is_unseen x) x ++ escape t) is)
    go (inr other) =
        let none : unseen_in (c ∷ t) ≡ 0 =
        rw (
          ne_eqb c 0x7f other,
          ne_eqb c 0xc2 (λ e. omega arith),
          ne_eqb c 0xd8 (λ e. omega arith),
          ne_eqb c 0xe2 (λ e. omega arith),
        ) refl in
        (λ i. escape_first (none i) c ++ escape_from (bytes_behind (none i)) t)
        ∙ ap (λ l. l ++ escape t) (sym (append-nil (escape_byte c)))
        ∙ sym ((λ i. cond ((seen_first c small ∙ ne_eqb c 0x7f other) i) (unicode_escape c)
        (json.escape (encode_utf8 c))
        ++ escape t) ∙ ap (λ l. json.escape l ++ escape t) (ascii c small))

-- ** two bytes

two_are : (c : ℕ) → 128 ≤ c → c < 2048 → encode_utf8 c ≡ (192 + c / 64) ∷ (128 + c % 64) ∷ []
unfolding encode
two_are c low small = rw (le-ltb c 128 low, lt-ltb c 2048 small) refl

two_tested : (c z : ℕ) → 128 ≤ c → c < 2048
    → unseen (192 + c / 64) (128 + c % 64) z ≡ cond (is_unseen c) c 0
two_tested c z low small =
    let first : 192 + c / 64 ≢ 0x7f = λ e. omega (arith, e) in
    let third : 192 + c / 64 ≢ 0xe2 = λ e. omega (arith, e) in
    let other : unseen (192 + c / 64) (128 + c % 64) z ≡ unseen (192 + c / 64) (128 + c % 64) 0 =
    rw (ne_eqb (192 + c / 64) 0x7f first, ne_eqb (192 + c / 64) 0xe2 third) refl in
    let all : (nat_lt c 128 || (unseen (192 + c / 64) (128 + c % 64) 0 == cond (is_unseen c) c 0)) ≡ true =
    agree_below_at (λ c. nat_lt c 128 || (unseen (192 + c / 64) (128 + c % 64) 0 == cond (is_unseen c) c 0))
    (λ _. true) 2048 c refl small in
    let same : (unseen (192 + c / 64) (128 + c % 64) 0 == cond (is_unseen c) c 0) ≡ true =
    sym (ap (λ b. b || (unseen (192 + c / 64) (128 + c % 64) 0 == cond (is_unseen c) c 0)) (le-ltb c 128 low)) ∙ all in
    other ∙ eqb-true _ _ same

two_bytes : (c : ℕ) (t : List ℕ) → 128 ≤ c → c < 2048 → IsShown c t
unfolding escape_from
two_bytes c t low small = ap (λ l. escape (l ++ t)) (two_are c low small) ∙ by (is_unseen c) refl
  where
    by : (b : Bool) → is_unseen c ≡ b
        → escape ((192 + c / 64) ∷ (128 + c % 64) ∷ t) ≡ shown_as (is_unseen c) c ++ escape t
    by true is =
        escaped c (192 + c / 64) ((128 + c % 64) ∷ t) t
        (two_tested c (get_or t 0 0) low small ∙ ap (λ b. cond b c 0) is) (omega arith)
        (rw (le-ltb c 128 low, lt-ltb c 2048 small) refl)
        ∙ sym (ap (λ b. shown_as b c ++ escape t) is)
    by false is =
        stands (192 + c / 64) ((128 + c % 64) ∷ t)
        (two_tested c (get_or t 0 0) low small ∙ ap (λ b. cond b c 0) is) (omega arith)
        ∙ ap (λ l. (192 + c / 64) ∷ l) (behind (128 + c % 64) t (omega arith) (omega arith))
        ∙ sym (ap (λ b. shown_as b c ++ escape t) is
        ∙ ap (λ l. json.escape l ++ escape t) (two_are c low small)
        ∙ (λ i. (high (192 + c / 64) (omega arith) i ++ (high (128 + c % 64) (omega arith) i ++ [])) ++ escape t))

-- ** three and four

three_are : (c : ℕ) → 2048 ≤ c → c < 65536
    → encode_utf8 c ≡ (224 + c / 4096) ∷ (128 + c / 64 % 64) ∷ (128 + c % 64) ∷ []
unfolding encode
three_are c low small = rw (le-ltb c 128 (omega arith), le-ltb c 2048 low, lt-ltb c 65536 small) refl

far_seen : (c : ℕ) → 0x61d ≤ c → (c < 0x2000) ⊎ (0x2080 ≤ c) → is_unseen c ≡ false
far_seen c low (inl below) = grind (arith, nat_tests)
far_seen c low (inr above) = grind (arith, nat_tests)

far_tested : (c z : ℕ) → 2048 ≤ c → c < 65536 → (c < 0x2000) ⊎ (0x2080 ≤ c)
    → unseen (224 + c / 4096) (128 + c / 64 % 64) z ≡ 0
far_tested c z low small far = by (cases_eq (224 + c / 4096) 0xe2) far
  where
    rest : (x y : ℕ) → x ≢ 0x7f → x ≢ 0xc2 → x ≢ 0xd8 → y ≢ 0x80 → y ≢ 0x81 → unseen x y z ≡ 0
    rest x y a b d e f =
        rw (ne_eqb x 0x7f a, ne_eqb x 0xc2 b, ne_eqb x 0xd8 d, ne_eqb y 0x80 e, ne_eqb y 0x81 f) (no (x == 0xe2))
      where
        no : (b : Bool) → cond (b && false && (is_in_range 0x8e 0x8f z || is_in_range 0xa8 0xae z)) (0x1f80 + z)
            (cond (b && false && is_in_range 0xa6 0xa9 z) (0x1fc0 + z) 0) ≡ 0
        no true = refl
        no false = refl

    by : ((224 + c / 4096) ≡ 0xe2) ⊎ ((224 + c / 4096) ≢ 0xe2) → (c < 0x2000) ⊎ (0x2080 ≤ c)
        → unseen (224 + c / 4096) (128 + c / 64 % 64) z ≡ 0
    by (inl is) (inl below) = absurd (omega (arith, is))
    by (inl is) (inr above) =
        rest (224 + c / 4096) (128 + c / 64 % 64) (λ e. omega (arith, e)) (λ e. omega (arith, e))
        (λ e. omega (arith, e)) (λ e. omega (arith, e, is)) (λ e. omega (arith, e, is))
    by (inr other) far =
        rw (
          ne_eqb (224 + c / 4096) 0x7f (λ e. omega (arith, e)),
          ne_eqb (224 + c / 4096) 0xc2 (λ e. omega (arith, e)),
          ne_eqb (224 + c / 4096) 0xd8 (λ e. omega (arith, e)),
          ne_eqb (224 + c / 4096) 0xe2 other,
        ) refl

abbrev near_same : ℕ → Bool
near_same k =
    unseen (224 + (0x2000 + k) / 4096) (128 + (0x2000 + k) / 64 % 64) (128 + (0x2000 + k) % 64)
    == cond (is_unseen (0x2000 + k)) (0x2000 + k) 0

three_tested : (c : ℕ) → 2048 ≤ c → c < 65536
    → unseen (224 + c / 4096) (128 + c / 64 % 64) (128 + c % 64) ≡ cond (is_unseen c) c 0
three_tested c low small = by (cases_lt c 0x2000) (cases_lt c 0x2080)
  where
    of_far : (c < 0x2000) ⊎ (0x2080 ≤ c)
        → unseen (224 + c / 4096) (128 + c / 64 % 64) (128 + c % 64) ≡ cond (is_unseen c) c 0
    of_far far =
        far_tested c (128 + c % 64) low small far ∙ sym (ap (λ b. cond b c 0) (far_seen c (omega arith) far))

    by : (c < 0x2000) ⊎ (0x2000 ≤ c) → (c < 0x2080) ⊎ (0x2080 ≤ c)
        → unseen (224 + c / 4096) (128 + c / 64 % 64) (128 + c % 64) ≡ cond (is_unseen c) c 0
    by (inl below) m = of_far (inl below)
    by (inr n) (inr above) = of_far (inr above)
    by (inr n) (inl within) =
        let back : 0x2000 + (c - 0x2000) ≡ c = omega arith in
        let same = agree_below_at near_same (λ _. true) 128 (c - 0x2000) refl (omega arith) in
        ap (λ c. unseen (224 + c / 4096) (128 + c / 64 % 64) (128 + c % 64)) (sym back)
        ∙ eqb-true _ _ same ∙ ap (λ c. cond (is_unseen c) c 0) back

three_bytes : (c : ℕ) (t : List ℕ) → 2048 ≤ c → c < 65536 → IsShown c t
unfolding escape_from
three_bytes c t low small = ap (λ l. escape (l ++ t)) (three_are c low small) ∙ by (is_unseen c) refl
  where
    by : (b : Bool) → is_unseen c ≡ b
        → escape ((224 + c / 4096) ∷ (128 + c / 64 % 64) ∷ (128 + c % 64) ∷ t) ≡ shown_as (is_unseen c) c ++ escape t
    by true is =
        escaped c (224 + c / 4096) ((128 + c / 64 % 64) ∷ (128 + c % 64) ∷ t) t
        (three_tested c low small ∙ ap (λ b. cond b c 0) is) (omega arith)
        (rw (le-ltb c 128 (omega arith), le-ltb c 2048 low) refl)
        ∙ sym (ap (λ b. shown_as b c ++ escape t) is)
    by false is =
        stands (224 + c / 4096) ((128 + c / 64 % 64) ∷ (128 + c % 64) ∷ t)
        (three_tested c low small ∙ ap (λ b. cond b c 0) is) (omega arith)
        ∙ ap (λ l. (224 + c / 4096) ∷ l)
        (behind (128 + c / 64 % 64) ((128 + c % 64) ∷ t) (omega arith) (omega arith)
        ∙ ap (λ l. (128 + c / 64 % 64) ∷ l) (behind (128 + c % 64) t (omega arith) (omega arith)))
        ∙ sym (ap (λ b. shown_as b c ++ escape t) is
        ∙ ap (λ l. json.escape l ++ escape t) (three_are c low small)
        ∙ (λ i. (high (224 + c / 4096) (omega arith) i ++ (high (128 + c / 64 % 64) (omega arith) i
        ++ (high (128 + c % 64) (omega arith) i ++ []))) ++ escape t))

four_are : (c : ℕ) → 65536 ≤ c
    → encode_utf8 c
    ≡ (240 + c / 262144) ∷ (128 + c / 4096 % 64) ∷ (128 + c / 64 % 64) ∷ (128 + c % 64) ∷ []
unfolding encode
four_are c low = rw (le-ltb c 128 (omega arith), le-ltb c 2048 (omega arith), le-ltb c 65536 low) refl

four_bytes : (c : ℕ) (t : List ℕ) → 65536 ≤ c → IsShown c t
four_bytes c t low =
    let x = 240 + c / 262144 in
    let y = 128 + c / 4096 % 64 in
    let z = 128 + c / 64 % 64 in
    let w = 128 + c % 64 in
    ap (λ l. escape (l ++ t)) (four_are c low)
    ∙ stands x (y ∷ z ∷ w ∷ t)
    (rw (
      ne_eqb x 0x7f (λ e. omega (arith, e)),
      ne_eqb x 0xc2 (λ e. omega (arith, e)),
      ne_eqb x 0xd8 (λ e. omega (arith, e)),
      ne_eqb x 0xe2 (λ e. omega (arith, e)),
    ) refl) (omega arith)
    ∙ ap (λ l. x ∷ l)
    (behind y (z ∷ w ∷ t) (omega arith) (omega arith)
    ∙ ap (λ l. y ∷ l)
    (behind z (w ∷ t) (omega arith) (omega arith)
    ∙ ap (λ l. z ∷ l) (behind w t (omega arith) (omega arith))))
    ∙ sym (ap (λ b. shown_as b c ++ escape t) (far_seen c (omega arith) (inr (omega arith)))
    ∙ ap (λ l. json.escape l ++ escape t) (four_are c low)
    ∙ (λ i. (high x (omega arith) i ++ (high y (omega arith) i ++ (high z (omega arith) i
    ++ (high w (omega arith) i ++ [])))) ++ escape t))

one_shown : (c : ℕ) (t : List ℕ) → IsShown c t
one_shown c t = by (cases_lt c 128) (cases_lt c 2048) (cases_lt c 65536)
  where
    by : (c < 128) ⊎ (128 ≤ c) → (c < 2048) ⊎ (2048 ≤ c) → (c < 65536) ⊎ (65536 ≤ c) → IsShown c t
    by (inl small) m n = one_byte c t small
    by (inr low) (inl small) n = two_bytes c t low small
    by (inr l) (inr low) (inl small) = three_bytes c t low small
    by (inr l) (inr m) (inr low) = four_bytes c t low

pub characters_shown : (cs : List ℕ) → escape (encodes cs) ≡ flat_map escape_char cs
unfolding escape_from
characters_shown [] = refl
characters_shown (c ∷ cs) = one_shown c (encodes cs) ∙ ap (λ l. escape_char c ++ l) (characters_shown cs)
