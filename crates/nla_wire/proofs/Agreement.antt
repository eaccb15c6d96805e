-- Readers return what the relations say: each combinator and each leaf payload.
use Rattle.std.proofs.Common.{◌≡◌, ◌≢◌, ℕ, ◌<◌, ◌≤◌, ◌==◌, ◌⊎◌, inl, inr, List, [], ◌∷◌, ◌++◌, length, length-append}
use Rattle.std.proofs.Common.{refl, ap, sym, ◌∙◌, arith, Bool, true, false, if◌then◌else◌, lt-ltb, le-ltb, eq-eqb}
use Rattle.std.proofs.Common.{ne_eqb, Result, Ok, Err}
use Rattle.std.proofs.lemmas.Bool.{cases_lt, cases_eq, cases_Bool}
use Rattle.std.proofs.lemmas.Str.{IsUtf8-from_is_utf8, is_utf8-from_IsUtf8}
use Rattle.std.specs.Str.{is_utf8}
use Rattle.std.specs.Int.{Width, byte_len, from_le_bytes}
use Rattle.nla_wire.specs.Frames.{Frame, IsBytes, IsFrame}
use Rattle.nla_wire.specs.Reading.{◌>>=◌}
use Rattle.nla_wire.specs.Grammar.{Grammar, Agrees, as_a, unless_empty, not_empty, by_payload, undecoded, if_true}
use Rattle.nla_wire.specs.Grammar.{choose}
use Rattle.nla_wire.specs.Payloads.{read_number, number_of, bytes, read_exactly, exactly, EndsInNul, IsTextOf}
use Rattle.nla_wire.specs.Payloads.{without_nul, read_text, text, filled, read_sized, sized}
use Rattle.nla_wire.specs.declared.error.Cause.{Cause}
use Rattle.nla_wire.specs.declared.error.Cause.TheVariants.{WrongLength, NotUtf8, TooShort, EmptyList}
use Rattle.nla_wire.proofs.Loop.{ok_not_err}

-- ** combinators

variant_found : {A B : Type 0} (variant : A → B) (r : Result A Cause) (b : B) → (r >>= λ a. Ok (variant a)) ≡ Ok b
    → (a : A) × (r ≡ Ok a) × (b ≡ variant a)
variant_found variant (Ok a) b e = (a, refl, cc)
variant_found variant (Err c) b e = absurd cc

variant_fault : {A B : Type 0} (variant : A → B) (r : Result A Cause) (c : Cause)
    → (r >>= λ a. Ok (variant a)) ≡ Err c → r ≡ Err c
variant_fault variant (Ok a) c e = absurd cc
variant_fault variant (Err d) c e = cc

pub as_agrees : {S A B : Type 0} (One : S → Type 0) (variant : A → B) (g : Grammar S A) → Agrees One g
    → Agrees One (as_a variant g)
as_agrees One variant g h = record {
  only = λ s b m. ap (λ r. r >>= λ a. Ok (variant a)) (h.only s m.0 m.1) ∙ ap (λ x. Ok x) (sym m.2);
  found = λ s b one e. let k = variant_found variant (g.reads s) b e in (k.0, h.found s k.0 one k.1, k.2);
  fault = λ s c one e. h.fault s c one (variant_fault variant (g.reads s) c e);
  refused = λ s c m. ap (λ r. r >>= λ a. Ok (variant a)) (h.refused s c m);
}

ok_is : {A : Type 0} (r : Result A Cause) (x y : A) → r ≡ Ok x → r ≡ Ok y → y ≡ x
ok_is r x y e k = cc

err_is : {A : Type 0} (r : Result A Cause) (c d : Cause) → r ≡ Err c → r ≡ Err d → d ≡ c
err_is r c d e k = cc

pub kept_agrees : {V : Type 0} (One : Frame → Type 0) (other : Frame → V) → Agrees One (undecoded other)
kept_agrees One other = record {
  only = λ f v m. ap (λ x. Ok x) (sym m);
  found = λ f v one e. ok_is (Ok (other f)) (other f) v refl e;
  fault = λ f c one e. ok_not_err (Ok (other f)) (other f) c refl e;
  refused = λ f c m. absurd m;
}

pub payload_agrees : {V : Type 0} (g : Grammar (List ℕ) V) → Agrees IsBytes g → Agrees IsFrame (by_payload g)
payload_agrees g h = record {
  only = λ f v m. h.only f.payload v m;
  found = λ f v one e. h.found f.payload v one.bytes e;
  fault = λ f c one e. h.fault f.payload c one.bytes e;
  refused = λ f c m. h.refused f.payload c m;
}

pub if_agrees : {V : Type 0} (test : Bool) (g h : Grammar Frame V) → Agrees IsFrame g → Agrees IsFrame h
    → Agrees IsFrame (if_true test g h)
if_agrees true g h a b = a
if_agrees false g h a b = b

pub choose_agrees : {V : Type 0} (test : Frame → Bool) (g h : Grammar Frame V) → Agrees IsFrame g → Agrees IsFrame h
    → Agrees IsFrame (choose test g h)
choose_agrees test g h a b = record {
  only = λ f v m. (if_agrees (test f) g h a b).only f v m;
  found = λ f v one e. (if_agrees (test f) g h a b).found f v one e;
  fault = λ f c one e. (if_agrees (test f) g h a b).fault f c one e;
  refused = λ f c m. (if_agrees (test f) g h a b).refused f c m;
}

pub if_reads : {V : Type 0} (test : Bool) (g h : Grammar Frame V) (f : Frame)
    → (if test then g.reads f else h.reads f) ≡ (if_true test g h).reads f
if_reads true g h f = refl
if_reads false g h f = refl

-- ** the empty payload

pub unless_empty_nil : {A : Type 0} (r : Result A Cause) → unless_empty [] r ≡ Err EmptyList
unfolding unless_empty
unless_empty_nil r = refl

pub unless_empty_some : {A : Type 0} (p : List ℕ) (r : Result A Cause) → 0 < length p → unless_empty p r ≡ r
unfolding unless_empty
unless_empty_some [] r some = absurd (omega arith)
unless_empty_some (x ∷ p) r some = refl

module _ {A : Type 0} (g : Grammar (List ℕ) A) (h : Agrees IsBytes g) where
  some_found : (p : List ℕ) (a : A) → IsBytes p → unless_empty p (g.reads p) ≡ Ok a → (0 < length p) × g.means p a
  unfolding unless_empty
  some_found [] a small e = absurd cc
  some_found (x ∷ p) a small e = (omega arith, h.found (x ∷ p) a small e)

  some_fault : (p : List ℕ) (c : Cause) → IsBytes p → unless_empty p (g.reads p) ≡ Err c
      → ((p ≡ []) × (c ≡ EmptyList)) ⊎ ((0 < length p) × g.bad p c)
  unfolding unless_empty
  some_fault [] c small e = inl (refl, cc)
  some_fault (x ∷ p) c small e = inr (omega arith, h.fault (x ∷ p) c small e)

  some_refused : (p : List ℕ) (c : Cause) → ((p ≡ []) × (c ≡ EmptyList)) ⊎ ((0 < length p) × g.bad p c)
      → unless_empty p (g.reads p) ≡ Err c
  some_refused p c (inl m) = ap (λ q. unless_empty q (g.reads p)) m.0 ∙ unless_empty_nil (g.reads p)
      ∙ ap (λ d. Err d) (sym m.1)
  some_refused p c (inr m) = unless_empty_some p (g.reads p) m.0 ∙ h.refused p c m.1

  pub not_empty_agrees : Agrees IsBytes (not_empty g)
  not_empty_agrees = record {
    only = λ p a m. unless_empty_some p (g.reads p) m.0 ∙ h.only p a m.1;
    found = some_found;
    fault = some_fault;
    refused = some_refused;
  }

-- ** leaf payloads

pub bytes_agrees : Agrees IsBytes bytes
bytes_agrees = record {
  only = λ p v m. ap (λ x. Ok x) (sym m);
  found = λ p v small e. ok_is (Ok p) p v refl e;
  fault = λ p c small e. ok_not_err (Ok p) p c refl e;
  refused = λ p c m. absurd m;
}

pub filled_agrees : {A : Type 0} (fields : List ℕ → A) → Agrees IsBytes (filled fields)
filled_agrees fields = record {
  only = λ p a m. ap (λ x. Ok x) (sym m);
  found = λ p a small e. ok_is (Ok (fields p)) (fields p) a refl e;
  fault = λ p c small e. ok_not_err (Ok (fields p)) (fields p) c refl e;
  refused = λ p c m. absurd m;
}

-- a length that is wanted exactly: what the test returns
exact : {A : Type 0} → ℕ → ℕ → A → Cause → Result A Cause
exact got want x c = if got == want then Ok x else Err c

module _ {A : Type 0} (got want : ℕ) (x : A) (c : Cause) where
  exact_is : got ≡ want → exact got want x c ≡ Ok x
  unfolding exact
  exact_is e = rw (eq-eqb got want e)

  exact_not : got ≢ want → exact got want x c ≡ Err c
  unfolding exact
  exact_not never = rw (ne_eqb got want never)

  exact_found : (y : A) → exact got want x c ≡ Ok y → (got ≡ want) × (y ≡ x)
  exact_found y e = elim (cases_eq got want) [
    | inl same ↦ (same, ok_is _ x y (exact_is same) e)
    | inr other ↦ absurd (ok_not_err _ y c e (exact_not other))
  ]

  exact_fault : (d : Cause) → exact got want x c ≡ Err d → (got ≢ want) × (d ≡ c)
  exact_fault d e = elim (cases_eq got want) [
    | inl same ↦ absurd (ok_not_err _ x d (exact_is same) e)
    | inr other ↦ (other, err_is _ c d (exact_not other) e)
  ]

pub number_agrees : (w : Width) → Agrees IsBytes (number_of w)
unfolding read_number exact
number_agrees w = record {
  only = λ p n m. exact_is (length p) (byte_len w) (from_le_bytes w p) (WrongLength (length p) (byte_len w)) m.0
      ∙ ap (λ x. Ok x) (sym m.1);
  found = λ p n small e.
      exact_found (length p) (byte_len w) (from_le_bytes w p) (WrongLength (length p) (byte_len w)) n e;
  fault = λ p c small e.
      exact_fault (length p) (byte_len w) (from_le_bytes w p) (WrongLength (length p) (byte_len w)) c e;
  refused = λ p c m. exact_not (length p) (byte_len w) (from_le_bytes w p) (WrongLength (length p) (byte_len w)) m.0
      ∙ ap (λ x. Err x) (sym m.1);
}

pub exactly_agrees : (n : ℕ) → Agrees IsBytes (exactly n)
unfolding read_exactly exact
exactly_agrees n = record {
  only = λ p v m. exact_is (length p) n p (WrongLength (length p) n) m.0 ∙ ap (λ x. Ok x) (sym m.1);
  found = λ p v small e. exact_found (length p) n p (WrongLength (length p) n) v e;
  fault = λ p c small e. exact_fault (length p) n p (WrongLength (length p) n) c e;
  refused = λ p c m. exact_not (length p) n p (WrongLength (length p) n) m.0 ∙ ap (λ x. Err x) (sym m.1);
}

module _ {A : Type 0} (size : ℕ) (fields : List ℕ → A) where
  sized_short : (p : List ℕ) → length p < size → read_sized size fields p ≡ Err (TooShort (length p) size)
  unfolding read_sized
  sized_short p short = rw (lt-ltb (length p) size short)

  sized_whole : (p : List ℕ) → size ≤ length p → read_sized size fields p ≡ Ok (fields p)
  unfolding read_sized
  sized_whole p whole = rw (le-ltb (length p) size whole)

  pub sized_agrees : Agrees IsBytes (sized size fields)
  sized_agrees = record {
    only = λ p a m. sized_whole p m.0 ∙ ap (λ x. Ok x) (sym m.1);
    found = λ p a small e. elim (cases_lt (length p) size) [
      | inl short ↦ absurd (ok_not_err _ a _ e (sized_short p short))
      | inr whole ↦ (whole, ok_is _ (fields p) a (sized_whole p whole) e)
    ];
    fault = λ p c small e. elim (cases_lt (length p) size) [
      | inl short ↦ (short, err_is _ (TooShort (length p) size) c (sized_short p short) e)
      | inr whole ↦ absurd (ok_not_err _ (fields p) c (sized_whole p whole) e)
    ];
    refused = λ p c m. sized_short p m.0 ∙ ap (λ x. Err x) (sym m.1);
  }

-- ** texts

without_nul_end : (s : List ℕ) → without_nul (s ++ 0 ∷ []) ≡ s
without_nul_end [] = refl
without_nul_end (x ∷ []) = refl
without_nul_end (x ∷ y ∷ s) = ap (λ (t : List ℕ). x ∷ t) (without_nul_end (y ∷ s))

nul_alone : (x : ℕ) → x ≡ 0 → without_nul (x ∷ []) ≡ []
nul_alone x e = rw (eq-eqb x 0 e)

other_alone : (x : ℕ) → (x ≡ 0 → ⊥) → without_nul (x ∷ []) ≡ x ∷ []
other_alone x never = rw (ne_eqb x 0 never)

ends_further : (x : ℕ) (p : List ℕ) → EndsInNul p → EndsInNul (x ∷ p)
ends_further x p e = (x ∷ e.0, ap (λ (t : List ℕ). x ∷ t) e.1)

ends_after : (x y : ℕ) (p s : List ℕ) → x ∷ y ∷ p ≡ s ++ 0 ∷ [] → EndsInNul (y ∷ p)
ends_after x y p [] e = absurd cc
ends_after x y p (z ∷ s) e = (s, cc)

nothing_ends : EndsInNul [] → ⊥
nothing_ends e = let lengths : length {A = ℕ} [] ≡ length (e.0 ++ 0 ∷ []) = ap length e.1 in
    omega (arith, length-append e.0 (0 ∷ []))

ends_alone : (x : ℕ) (s : List ℕ) → x ∷ [] ≡ s ++ 0 ∷ [] → x ≡ 0
ends_alone x [] e = cc
ends_alone x (y ∷ []) e = absurd cc
ends_alone x (y ∷ z ∷ s) e = absurd cc

without_nul_other : (p : List ℕ) → (EndsInNul p → ⊥) → without_nul p ≡ p
without_nul_other [] never = refl
without_nul_other (x ∷ []) never = other_alone x (λ e. never ([], ap (λ (y : ℕ). y ∷ []) e))
without_nul_other (x ∷ y ∷ p) never =
    ap (λ (t : List ℕ). x ∷ t) (without_nul_other (y ∷ p) (λ e. never (ends_further x (y ∷ p) e)))

pub text_is : (p s : List ℕ) → IsTextOf p s → without_nul p ≡ s
text_is p s (inl e) = ap without_nul e ∙ without_nul_end s
text_is p s (inr (never, e)) = without_nul_other p never ∙ e

text_further : (x y : ℕ) (p s : List ℕ) → IsTextOf (y ∷ p) s → IsTextOf (x ∷ y ∷ p) (x ∷ s)
text_further x y p s (inl e) = inl (ap (λ (t : List ℕ). x ∷ t) e)
text_further x y p s (inr (never, e)) =
    inr (λ ends. never (ends_after x y p ends.0 ends.1), ap (λ (t : List ℕ). x ∷ t) e)

pub is_text : (p : List ℕ) → IsTextOf p (without_nul p)
is_text [] = inr (nothing_ends, refl)
is_text (x ∷ []) = elim (cases_eq x 0) [
  | inl nul ↦ inl (rw (nul_alone x nul) (ap (λ (y : ℕ). y ∷ []) nul))
  | inr other ↦ inr (λ ends. other (ends_alone x ends.0 ends.1), sym (other_alone x other))
]
is_text (x ∷ y ∷ p) = text_further x y p (without_nul (y ∷ p)) (is_text (y ∷ p))

text_fine : (p : List ℕ) → is_utf8 (without_nul p) ≡ true → read_text p ≡ Ok (without_nul p)
unfolding read_text
text_fine p e = rw e

text_wrong : (p : List ℕ) → is_utf8 (without_nul p) ≡ false → read_text p ≡ Err NotUtf8
unfolding read_text
text_wrong p e = rw e

true_not_false : (b : Bool) → b ≡ true → b ≡ false → ⊥
true_not_false b e k = absurd cc

pub text_agrees : Agrees IsBytes text
text_agrees = record {
  only = λ p s m.
      text_fine p (ap is_utf8 (text_is p s m.1) ∙ is_utf8-from_IsUtf8 s m.0) ∙ ap (λ x. Ok x) (text_is p s m.1);
  found = λ p s small e. elim (cases_Bool (is_utf8 (without_nul p))) [
    | inl fine ↦ let is : s ≡ without_nul p = ok_is _ (without_nul p) s (text_fine p fine) e in
        (rw is (IsUtf8-from_is_utf8 (without_nul p) fine), rw is (is_text p))
    | inr wrong ↦ absurd (ok_not_err _ s NotUtf8 e (text_wrong p wrong))
  ];
  fault = λ p c small e. elim (cases_Bool (is_utf8 (without_nul p))) [
    | inl fine ↦ absurd (ok_not_err _ (without_nul p) c (text_fine p fine) e)
    | inr wrong ↦ (
      λ s is whole. true_not_false (is_utf8 (without_nul p))
          (ap is_utf8 (text_is p s is) ∙ is_utf8-from_IsUtf8 s whole) wrong,
      err_is _ NotUtf8 c (text_wrong p wrong) e,
    )
  ];
  refused = λ p c m. elim (cases_Bool (is_utf8 (without_nul p))) [
    | inl fine ↦ absurd (m.0 (without_nul p) (is_text p) (IsUtf8-from_is_utf8 (without_nul p) fine))
    | inr wrong ↦ text_wrong p wrong ∙ ap (λ x. Err x) (sym m.1)
  ];
}
