-- What a search for an `=` and for a blank says of the first word of a line, and how long the words in front are.
use Rattle.std.proofs.Common.{◌≡◌, ℕ, zero, suc, ◌+◌, ◌<◌, ◌≤◌, ◌⊎◌, Bool, true, false, not, List, [], ◌∷◌, length}
use Rattle.std.proofs.Common.{refl, ap, ◌∙◌, inl, inr, arith, take, drop, get_or, length-drop}
use Rattle.std.proofs.Common.{sym, subst, append_assoc, ◌++◌}
use Rattle.std.specs.Prelude.{MatchBool, nat_lt, ◌&&◌, ◌==◌, ◌-◌, None, Some, if◌then◌else◌}
use Rattle.std.specs.List.{prefix_len}
use Rattle.std.proofs.lemmas.Bool.Decides.{nat_tests}
use Rattle.std.proofs.lemmas.List.{drop-drop}
use lib.Pointwise.{pointwise}
use Rattle.std.proofs.lemmas.List.Sums.{prefix_len_is, prefix_len-le-length}
use Rattle.memchr.specs.Find.{IsFirstByte, is_byte}
use Rattle.line_filter.specs.Words.{is_blank, key_len, part_len, has_word, step_len, first_key, first_value}
use Rattle.line_filter.specs.Words.{words_len, front_len, words_in, words_of, value_in}
use Rattle.line_filter.specs.Words.{front_of, rest_of, are_alone, digits_of, IsOwn, WithWords}
use Rattle.line_filter.specs.Lines.{Relation, with_lf}
use Rattle.line_filter.specs.Steps.{AddsAnswer}
use Rattle.line_filter.proofs.Text.{take_rest}

not_true : (b : Bool) → (b ≡ true → ⊥) → not b ≡ true
not_true true h = absurd (h refl)
not_true false h = refl

-- a search tells how long the part before what it looks for is
pub found_at : (test : ℕ → Bool) (line : List ℕ) (k : ℕ) → IsFirstByte test line (Some k)
    → prefix_len (λ byte. not (test byte)) line ≡ k
found_at test line k h =
    prefix_len_is (λ byte. not (test byte)) line k 0 (omega (arith, h.0.high))
    (λ i lt. not_true (test (get_or line i 0)) (h.0.before i (omega arith) lt))
    (λ lt. ap not h.1)

pub found_nowhere : (test : ℕ → Bool) (line : List ℕ) → IsFirstByte test line None
    → prefix_len (λ byte. not (test byte)) line ≡ length line
found_nowhere test line h =
    prefix_len_is (λ byte. not (test byte)) line (length line) 0 (omega arith)
    (λ i lt. not_true (test (get_or line i 0)) (h i (omega arith) lt))
    (λ lt. absurd (omega arith))

pub has_word_is : (line : List ℕ) (k e : ℕ) → key_len line ≡ k → part_len line ≡ e
    → has_word line ≡ (nat_lt 0 k && nat_lt k e)
has_word_is line k e p q = rw (p, q) refl

no_test : (a : Bool) → (a && false) ≡ false
no_test true = refl
no_test false = refl

pub part_within : (line : List ℕ) → part_len line ≤ length line
part_within line = prefix_len-le-length (λ byte. not (is_blank byte)) line

pub no_equals : (line : List ℕ) → IsFirstByte (is_byte 61) line None → has_word line ≡ false
no_equals line h =
    let long : part_len line ≤ length line = part_within line in
    let none : nat_lt (length line) (part_len line) ≡ false = grind (arith, nat_tests) in
    has_word_is line (length line) (part_len line) (found_nowhere (is_byte 61) line h) refl ∙ rw none (no_test _)

pub no_word : (line : List ℕ) (k e : ℕ) → IsFirstByte (is_byte 61) line (Some k) → e ≡ part_len line
    → (k ≡ 0) ⊎ ((k ≡ 0 → ⊥) × (e ≤ k)) → has_word line ≡ false
no_word line k e h g is =
    has_word_is line k e (found_at (is_byte 61) line k h) (sym g)
    ∙ elim is [
      | inl first ↦ grind (arith, nat_tests)
      | inr late ↦ grind (arith, nat_tests)
    ]

pub some_word : (line : List ℕ) (k e : ℕ) → IsFirstByte (is_byte 61) line (Some k) → e ≡ part_len line
    → (k ≡ 0 → ⊥) → k < e → has_word line ≡ true
some_word line k e h g some less =
    has_word_is line k e (found_at (is_byte 61) line k h) (sym g) ∙ grind (arith, nat_tests)

-- what a word tells of its lengths
parts : (k e : ℕ) → (nat_lt 0 k && nat_lt k e) ≡ true → (0 < k) × (k < e)
parts k e h = (grind (arith, nat_tests), grind (arith, nat_tests))

pub step_some : (line : List ℕ) → has_word line ≡ true → 0 < step_len line
step_some line h = let p = parts (key_len line) (part_len line) h in omega (arith, p.0, p.1)

pub step_within : (line : List ℕ) → step_len line ≤ length line
step_within line =
    omega (
      arith,
      part_within line,
      prefix_len-le-length is_blank (drop (part_len line) line),
      length-drop (part_len line) line,
    )

pick : {A : Type 0} (b : Bool) (x y none : A) → (b ≡ true → x ≡ y)
    → (if b then x else none) ≡ (if b then y else none)
pick true x y none h = h refl
pick false x y none h = refl

shorter : (line : List ℕ) (n : ℕ) → has_word line ≡ true → length line ≤ suc n
    → length (drop (step_len line) line) ≤ n
shorter line n h p = omega (arith, step_some line h, step_within line, length-drop (step_len line) line)

-- so many steps as the line has bytes are enough
same_len : (n m : ℕ) (line : List ℕ) → length line ≤ n → length line ≤ m → words_len n line ≡ words_len m line
same_len zero zero line p q = refl
same_len zero (suc m) [] p q = refl
same_len zero (suc m) (x ∷ xs) p q = absurd (omega arith)
same_len (suc n) zero [] p q = refl
same_len (suc n) zero (x ∷ xs) p q = absurd (omega arith)
same_len (suc n) (suc m) line p q =
    pick (has_word line) _ _ 0 (λ h. ap (λ t. step_len line + t)
    (same_len n m (drop (step_len line) line) (shorter line n h p) (shorter line m h q)))

same_words : (n m : ℕ) (line : List ℕ) → length line ≤ n → length line ≤ m → words_in n line ≡ words_in m line
same_words zero zero line p q = refl
same_words zero (suc m) [] p q = refl
same_words zero (suc m) (x ∷ xs) p q = absurd (omega arith)
same_words (suc n) zero [] p q = refl
same_words (suc n) zero (x ∷ xs) p q = absurd (omega arith)
same_words (suc n) (suc m) line p q =
    pick (has_word line) _ _ [] (λ h. ap (λ t. (first_key line, first_value line) ∷ t)
    (same_words n m (drop (step_len line) line) (shorter line n h p) (shorter line m h q)))

pub front_len-word : (line : List ℕ) → has_word line ≡ true
    → front_len line ≡ step_len line + front_len (drop (step_len line) line)
front_len-word line h =
    let more : List ℕ = drop (step_len line) line in
    let less : length more ≤ length line = shorter line (length line) h (omega arith) in
    same_len (length line) (suc (length line)) line (omega arith) (omega arith)
    ∙ rw h (ap (λ t. step_len line + t) (same_len (length line) (length more) more less (omega arith)))

pub front_len-none : (line : List ℕ) → has_word line ≡ false → front_len line ≡ 0
front_len-none line h =
    same_len (length line) (suc (length line)) line (omega arith) (omega arith) ∙ rw h refl

pub words_of-word : (line : List ℕ) → has_word line ≡ true
    → words_of line ≡ (first_key line, first_value line) ∷ words_of (drop (step_len line) line)
words_of-word line h =
    let more : List ℕ = drop (step_len line) line in
    let less : length more ≤ length line = shorter line (length line) h (omega arith) in
    same_words (length line) (suc (length line)) line (omega arith) (omega arith)
    ∙ rw h (ap (λ t. (first_key line, first_value line) ∷ t)
    (same_words (length line) (length more) more less (omega arith)))

pub words_of-none : (line : List ℕ) → has_word line ≡ false → words_of line ≡ []
words_of-none line h =
    same_words (length line) (suc (length line)) line (omega arith) (omega arith) ∙ rw h refl

-- what is measured of the first word
pub step_is : (line : List ℕ) (e b : ℕ) → e ≡ part_len line
    → b ≡ prefix_len is_blank (take (length line - e) (drop e line)) → e + b ≡ step_len line
step_is line e b h k =
    rw (sym h) (ap (λ t. e + t) (k ∙ ap (λ t. prefix_len is_blank t) (take_rest e line)))

-- ** the words in front up to some place
pub record Passed (line : List ℕ) (at : ℕ) : Type 0 where
  pub within : at ≤ length line
  pub len : at + front_len (drop at line) ≡ front_len line

pub Passed-step : (line : List ℕ) (at : ℕ) → Passed line at → has_word (drop at line) ≡ true
    → Passed line (at + step_len (drop at line))
Passed-step line at h is =
    let step : ℕ = step_len (drop at line) in
    let inner : step ≤ length (drop at line) = step_within (drop at line) in
    let later : front_len (drop at line) ≡ step + front_len (drop step (drop at line)) =
    front_len-word (drop at line) is in
    let joined : front_len (drop step (drop at line)) ≡ front_len (drop (at + step) line) =
    ap front_len (drop-drop step at line) in
    record {
      within = omega (arith, inner, h.within, length-drop at line);
      len = omega (arith, h.len, later, joined);
    }

pub Passed-end : (line : List ℕ) (at : ℕ) → Passed line at → has_word (drop at line) ≡ false → at ≡ front_len line
Passed-end line at h is = omega (arith, h.len, front_len-none (drop at line) is)

-- ** the value of a key
pub value_in-here : (key line : List ℕ) → has_word line ≡ true → pointwise ◌==◌ (first_key line) key ≡ true
    → value_in key (words_of line) ≡ Some (first_value line)
value_in-here key line is same = rw (words_of-word line is) (rw same refl)

pub value_in-later : (key line : List ℕ) → has_word line ≡ true → pointwise ◌==◌ (first_key line) key ≡ false
    → value_in key (words_of line) ≡ value_in key (words_of (drop (step_len line) line))
value_in-later key line is other = rw (words_of-word line is) (rw other refl)

pub value_in-none : (key line : List ℕ) → has_word line ≡ false → value_in key (words_of line) ≡ None
value_in-none key line is = rw (words_of-none line is) refl

-- ** the answer to a line: what is added for its words, and then for its rest
adds_own : (is : Relation) (line front rest old mid new own : List ℕ) → front ≡ front_of line → rest ≡ rest_of line
    → mid ≡ old ++ front → IsOwn is front rest own → new ≡ mid ++ with_lf own → AddsAnswer (WithWords is) line old new
adds_own is line front rest old mid new own f r m s e =
    let whole : new ≡ (old ++ front_of line) ++ with_lf own =
    e ∙ ap (λ t. t ++ with_lf own) (m ∙ ap (λ t. old ++ t) f) in (
      front_of line ++ own,
      (
        own,
        subst (λ (t : List ℕ). IsOwn is (front_of line) t own) r (subst (λ (t : List ℕ). IsOwn is t rest own) f s),
        refl,
      ),
      whole ∙ append_assoc old (front_of line) (with_lf own)
          ∙ ap (λ t. old ++ t) (sym (append_assoc (front_of line) own (10 ∷ []))),
    )

pub adds_words : (is : Relation) (line front rest digits old mid new : List ℕ) → front ≡ front_of line
    → rest ≡ rest_of line → digits ≡ digits_of rest → mid ≡ old ++ front → are_alone front rest ≡ false
    → AddsAnswer is digits mid new → AddsAnswer (WithWords is) line old new
adds_words is line front rest digits old mid new f r d m some s =
    let answer : is (digits_of rest) s.0 = subst (λ (t : List ℕ). is t s.0) d s.1 in
    let own : IsOwn is front rest s.0 =
    subst (λ b. MatchBool b (s.0 ≡ []) (is (digits_of rest) s.0)) (sym some) answer in
    adds_own is line front rest old mid new s.0 f r m own s.2

alone_own : (b : Bool) (P : Type 0) (own : List ℕ) → b ≡ true → own ≡ [] → MatchBool b (own ≡ []) P
alone_own b P own is none = subst (λ c. MatchBool c (own ≡ []) P) (sym is) none

-- words alone
pub adds_words_alone : (is : Relation) (line front rest old mid new : List ℕ) → front ≡ front_of line
    → rest ≡ rest_of line → mid ≡ old ++ front → are_alone front rest ≡ true → new ≡ mid ++ 10 ∷ []
    → AddsAnswer (WithWords is) line old new
adds_words_alone is line front rest old mid new f r m alone e =
    let own : IsOwn is front rest [] = alone_own (are_alone front rest) (is (digits_of rest) []) [] alone refl in
    adds_own is line front rest old mid new [] f r m own e
