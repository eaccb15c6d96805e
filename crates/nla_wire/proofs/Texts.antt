-- Texts as code reads them: one NUL dropped, then a test of what is left.
use Rattle.std.proofs.Common.{◌≡◌, ℕ, ◌+◌, ◌<◌, ◌≤◌, inl, Bool, true, false, List, [], ◌∷◌, ◌++◌, length, refl, sym, ap}
use Rattle.std.proofs.Common.{◌∙◌, subst, arith, length-append, Option, Some, None, Result, Ok, Err}
use Rattle.std.specs.Prelude.{IsUtf8, IfOk, IfErr, if◌then◌else◌}
use Rattle.std.specs.Str.{is_utf8}
use Rattle.std.specs.List.{AllByRecursion}
use Rattle.std.proofs.Common.{◌↔◌, zero, suc, drop, get_or}
use Rattle.std.proofs.lemmas.Str.{IsUtf8-append, IsUtf8-nil, IsUtf8-encode, encode_ascii}
use Rattle.std.proofs.lemmas.List.{drop_all}
use lib.Utf8.{low_scalar}
use Rattle.nla_wire.specs.Sizes.{most_payload}
use Rattle.nla_wire.specs.Payloads.{read_text, AreAscii, IsTextOf, without_nul}
use Rattle.nla_wire.specs.Canon.{Weighs}
use Rattle.nla_wire.specs.Gives.{Gives}
use Rattle.nla_wire.specs.declared.error.Cause.{Cause}
use Rattle.nla_wire.specs.declared.error.Cause.TheVariants.{NotUtf8, OutOfMemory}
use Rattle.nla_wire.specs.declared.error.DecodeError.{DecodeError}
use Rattle.nla_wire.proofs.Agreement.{text_agrees, text_is}

-- bytes below 128 are UTF-8
ascii_then : (x : ℕ) (xs : List ℕ) → x < 128 → IsUtf8 xs → IsUtf8 (x ∷ xs)
ascii_then x xs low whole = IsUtf8-append (x ∷ []) xs
    (subst IsUtf8 (encode_ascii x low) (IsUtf8-encode x (low_scalar x (omega (arith, low))))) whole

pub ascii_utf8 : (xs : List ℕ) → AreAscii xs → IsUtf8 xs
ascii_utf8 [] all = IsUtf8-nil
ascii_utf8 (x ∷ xs) all = ascii_then x xs all.0 (ascii_utf8 xs all.1)

all_low : (n : ℕ) → n < 128 → (xs : List ℕ) → AllByRecursion (λ b. b ≤ n) xs → AreAscii xs
all_low n low [] all = tt
all_low n low (x ∷ xs) all = (omega (arith, all.0, low), all_low n low xs all.1)

-- at index i the bytes in front are at most n exactly where the highest of them is
abbrev pub IsHighest : List ℕ → ℕ → ℕ → Type 0
IsHighest xs i high = (n : ℕ)
    → (AllByRecursion (λ b. b ≤ n) xs ↔ ((high ≤ n) × AllByRecursion (λ b. b ≤ n) (drop i xs)))

all_at : (P : ℕ → Type 0) (xs : List ℕ) (i : ℕ) → i < length xs
    → (AllByRecursion P (drop i xs) ↔ (P (get_or xs i 0) × AllByRecursion P (drop (suc i) xs)))
all_at P [] i within = absurd (omega (arith, within))
all_at P (x ∷ xs) zero within = (λ all. all, λ all. all)
all_at P (x ∷ xs) (suc i) within = all_at P xs i (omega (arith, within))

pub high_starts : (xs : List ℕ) → IsHighest xs 0 0
high_starts xs n = (λ all. (omega arith, all), λ both. both.1)

pub high_ends : (xs : List ℕ) (i high : ℕ) → IsHighest xs i high → length xs ≤ i → (n : ℕ)
    → (AllByRecursion (λ b. b ≤ n) xs ↔ (high ≤ n))
high_ends xs i high h ended n = (
  λ all. ((h n).0 all).0,
  λ below. (h n).1 (below, subst (AllByRecursion (λ b. b ≤ n)) (sym (drop_all i xs ended)) tt),
)

pub high_on : (xs : List ℕ) (i high new : ℕ) → IsHighest xs i high → i < length xs
    → ((n : ℕ) → ((new ≤ n) ↔ ((high ≤ n) × (get_or xs i 0 ≤ n)))) → IsHighest xs (suc i) new
high_on xs i high new h within both n =
    let here = all_at (λ b. b ≤ n) xs i within in (
      λ all. let k = (h n).0 all in let next = here.0 k.1 in ((both n).1 (k.0, next.0), next.1),
      λ k. let parts = (both n).0 k.0 in (h n).1 (parts.0, here.1 (parts.1, k.1)),
    )

low_all : (xs : List ℕ) → AreAscii xs → AllByRecursion (λ b. b ≤ 127) xs
low_all [] all = tt
low_all (x ∷ xs) all = (omega (arith, all.0), low_all xs all.1)

pub high_ascii : (xs : List ℕ) (high : ℕ) → ((n : ℕ) → (AllByRecursion (λ b. b ≤ n) xs ↔ (high ≤ n)))
    → ((high < 128) ↔ AreAscii xs)
high_ascii xs high highest = (
  λ low. all_low high low xs ((highest high).1 (omega arith)),
  λ all. omega (arith, (highest 127).0 (low_all xs all)),
)

pub text_found : (p s : List ℕ) → IsTextOf p s → IsUtf8 s → read_text p ≡ Ok s
text_found p s is whole = text_agrees.only p s (whole, is)

pub text_refused : (p s : List ℕ) → IsTextOf p s → (IsUtf8 s → ⊥) → read_text p ≡ Err NotUtf8
text_refused p s is never =
    text_agrees.refused p NotUtf8
    (λ other is_other whole. never (subst IsUtf8 (sym (text_is p other is_other) ∙ text_is p s is) whole), refl)

-- a copy of the text that was read, or no memory for it
pub text_given : (p s copied : List ℕ) (r : Result (List ℕ) DecodeError) → IsTextOf p s → IsUtf8 s → copied ≡ s
    → IfOk r (λ t. t ≡ copied) → IfErr r (λ e. e.cause ≡ OutOfMemory) → Gives r (read_text p)
text_given p s copied (Ok t) is whole same ok err = text_found p s is whole ∙ ap (λ x. Ok x) (sym (ok ∙ same))
text_given p s copied (Err e) is whole same ok err = inl err

passed : {A : Type 0} (t : Bool) (x y : A) (e : Cause) → (if t then Ok x else Err e) ≡ Ok y → x ≡ y
passed true x y e h = cc
passed false x y e h = absurd cc

text_once : (p s : List ℕ) → read_text p ≡ Ok s → without_nul p ≡ s
unfolding read_text
text_once p s h = passed (is_utf8 (without_nul p)) (without_nul p) s NotUtf8 h

-- the text of a payload, measured: with the NUL after it, which it gets if it had none
abbrev pub TextWeighs : List ℕ → Option ℕ → Type 0
TextWeighs p answer = Weighs (λ s. s ++ 0 ∷ []) (λ s. length (s ++ 0 ∷ []) ≤ most_payload) (read_text p) answer

pub text_weighs : (p s : List ℕ) → IsTextOf p s → IsUtf8 s → length s < most_payload
    → TextWeighs p (Some (length s + 1))
text_weighs p s is whole short =
    let size = length-append s (0 ∷ []) in
    subst (λ r. Weighs (λ s. s ++ 0 ∷ []) (λ s. length (s ++ 0 ∷ []) ≤ most_payload) r (Some (length s + 1)))
    (sym (text_found p s is whole)) (omega (arith, short, size), omega (arith, size))

pub text_unread : (p s : List ℕ) → IsTextOf p s → (IsUtf8 s → ⊥) → TextWeighs p None
text_unread p s is never =
    subst (λ r. Weighs (λ s. s ++ 0 ∷ []) (λ s. length (s ++ 0 ∷ []) ≤ most_payload) r None)
    (sym (text_refused p s is never)) tt

pub text_long : (p s : List ℕ) → IsTextOf p s → most_payload ≤ length s → TextWeighs p None
text_long p s is long = by (read_text p) refl where
  by : (r : Result (List ℕ) Cause) → read_text p ≡ r
      → Weighs (λ s. s ++ 0 ∷ []) (λ s. length (s ++ 0 ∷ []) ≤ most_payload) r None
  by (Ok t) e =
      let same : length t ≡ length s = ap (λ (x : List ℕ). length x) (sym (text_once p t e) ∙ text_is p s is) in
      λ fits. absurd (omega (arith, fits, length-append t (0 ∷ []), same, long))
  by (Err c) e = tt
