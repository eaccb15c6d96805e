-- Bytes that are ASCII, told by the highest bits of words.
use Rattle.std.proofs.Common.{◌≡◌, ℕ, zero, suc, ◌+◌, ◌*◌, ◌/◌, ◌%◌, ◌^◌, ◌<◌, ◌≤◌, List, [], ◌∷◌, length, get_or, take}
use Rattle.std.proofs.Common.{◌-◌, ◌↔◌, drop, refl, sym, ap, ◌∙◌, subst, arith, lit<, eqb-true, eq-eqb, take_all}
use Rattle.std.proofs.Common.{length-drop, length-take}
use Rattle.std.proofs.lemmas.List.{take_rest}
use Rattle.std.specs.Prelude.{IsTrue, nat_eq}
use Rattle.std.specs.List.{AllByRecursion}
use Rattle.std.specs.Int.{w32, w64}
use Rattle.std.specs.Int.RustNames.{bit_and}
use Rattle.std.proofs.lemmas.Nat.{and_block, and_mask, shr_split}
use Rattle.nla_wire.specs.Fields.{number_at}
use Rattle.nla_wire.specs.Payloads.{AreAscii}

-- a byte is below 128 exactly where it has not that bit
low_byte : (r : ℕ) → r < 2 ^ 8 → ((bit_and r 128 ≡ 0) ↔ (r < 128))
low_byte r small =
    let parts : bit_and r 128 ≡ bit_and (r / 2 ^ 7) 1 * 2 ^ 7 + bit_and (r % 2 ^ 7) 0 =
    subst (λ n. bit_and n 128 ≡ bit_and (r / 2 ^ 7) 1 * 2 ^ 7 + bit_and (r % 2 ^ 7) 0) (shr_split r 7)
    (and_block 7 (r / 2 ^ 7) 1 (r % 2 ^ 7) 0 (omega arith) (lit< tt)) in
    let odd : bit_and (r / 2 ^ 7) 1 ≡ r / 2 ^ 7 % 2 = and_mask (r / 2 ^ 7) 1 in
    let none : bit_and (r % 2 ^ 7) 0 ≡ r % 2 ^ 7 % 1 = and_mask (r % 2 ^ 7) 0 in
    (λ clear. omega (arith, parts, odd, clear), λ low. omega (arith, parts, odd, none, low))

low_first : (x r m : ℕ) → r < 2 ^ 8
    → ((bit_and (x * 2 ^ 8 + r) (m * 2 ^ 8 + 128) ≡ 0) ↔ ((bit_and x m ≡ 0) × (r < 128)))
low_first x r m small =
    let parts = and_block 8 x m r 128 small (lit< tt) in
    let byte = low_byte r small in (
      λ none. (omega (arith, parts, none), byte.0 (omega (arith, parts, none))),
      λ low. omega (arith, parts, low.0, byte.1 low.1),
    )

-- the number of n bytes from index i, the lowest first, and the highest bits of so many
abbrev word_from : List ℕ → ℕ → ℕ → ℕ
word_from xs i zero = 0
word_from xs i (suc n) = word_from xs (suc i) n * 2 ^ 8 + get_or xs i 0

abbrev high_bits : ℕ → ℕ
high_bits zero = 0
high_bits (suc n) = high_bits n * 2 ^ 8 + 128

-- each of the n bytes from index i is below 128
abbrev AreLow : List ℕ → ℕ → ℕ → Type 0
AreLow xs i n = (k : ℕ) → k < n → get_or xs (i + k) 0 < 128

low_next : (xs : List ℕ) (i n : ℕ) → (AreLow xs i (suc n) ↔ (AreLow xs (suc i) n × (get_or xs i 0 < 128)))
low_next xs i n =
    let here : i ≡ i + 0 = omega arith in
    let next : (k : ℕ) → suc i + k ≡ i + suc k = λ k. omega arith in (
      λ each. (
        λ k within. subst (λ j. get_or xs j 0 < 128) (sym (next k)) (each (suc k) (omega (arith, within))),
        subst (λ j. get_or xs j 0 < 128) (sym here) (each 0 (omega arith)),
      ),
      λ both k. elim k as (λ k. k < suc n → get_or xs (i + k) 0 < 128) [
        | zero ↦ λ within. subst (λ j. get_or xs j 0 < 128) here both.1
        | suc k ↦ λ within. subst (λ j. get_or xs j 0 < 128) (next k) (both.0 k (omega (arith, within)))
      ],
    )

low_from : (xs : List ℕ) (i n : ℕ) → ((k : ℕ) → get_or xs k 0 < 2 ^ 8)
    → ((bit_and (word_from xs i n) (high_bits n) ≡ 0) ↔ AreLow xs i n)
low_from xs i zero small = (λ none k within. absurd (omega (arith, within)), λ each. refl)
low_from xs i (suc n) small =
    let here = low_first (word_from xs (suc i) n) (get_or xs i 0) (high_bits n) (small i) in
    let rest = low_from xs (suc i) n small in
    let parts = low_next xs i n in (
      λ none. let both = here.0 none in parts.1 (rest.0 both.0, both.1),
      λ each. let both = parts.0 each in here.1 (rest.1 both.0, both.1),
    )

all_taken : (P : ℕ → Type 0) (xs : List ℕ) (n : ℕ) → n ≤ length xs
    → (((k : ℕ) → k < n → P (get_or xs k 0)) ↔ AllByRecursion P (take n xs))
all_taken P xs zero long = (λ each. tt, λ all k within. absurd (omega (arith, within)))
all_taken P [] (suc n) long = absurd (omega (arith, long))
all_taken P (x ∷ xs) (suc n) long =
    let rest = all_taken P xs n (omega (arith, long)) in (
      λ each. (each 0 (omega arith), rest.0 (λ k within. each (suc k) (omega (arith, within)))),
      λ all k. elim k as (λ k. k < suc n → P (get_or (x ∷ xs) k 0)) [
        | zero ↦ λ within. all.0
        | suc k ↦ λ within. rest.1 all.1 k (omega (arith, within))
      ],
    )

low_word : (xs : List ℕ) (n : ℕ) → ((k : ℕ) → get_or xs k 0 < 2 ^ 8) → n ≤ length xs
    → ((bit_and (word_from xs 0 n) (high_bits n) ≡ 0) ↔ AreAscii (take n xs))
low_word xs n small long =
    let bits = low_from xs 0 n small in
    let each = all_taken (λ b. b < 128) xs n long in
    let same : (k : ℕ) → 0 + k ≡ k = λ k. omega arith in (
      λ none. each.0 (λ k within. subst (λ j. get_or xs j 0 < 128) (same k) (bits.0 none k within)),
      λ all. bits.1 (λ k within. subst (λ j. get_or xs j 0 < 128) (sym (same k)) (each.1 all k within)),
    )

-- the same as code asks it, of a number and a mask that are these
low_number : (xs : List ℕ) (n m mask : ℕ) → m ≡ word_from xs 0 n → mask ≡ high_bits n
    → ((bit_and (word_from xs 0 n) (high_bits n) ≡ 0) ↔ AreAscii (take n xs))
    → (IsTrue (nat_eq (bit_and m mask) 0) ↔ AreAscii (take n xs))
low_number xs n m mask whole bits word =
    let same : bit_and m mask ≡ bit_and (word_from xs 0 n) (high_bits n) =
    ap (λ m. bit_and m mask) whole ∙ ap (bit_and (word_from xs 0 n)) bits in (
      λ none. word.0 (sym same ∙ eqb-true (bit_and m mask) 0 none),
      λ all. eq-eqb (bit_and m mask) 0 (same ∙ word.1 all),
    )

module _ (xs : List ℕ) (small : (k : ℕ) → get_or xs k 0 < 2 ^ 8) (n : ℕ) where
  pub ascii_4 : 4 ≤ length xs → n ≡ number_at w32 xs 0
      → (IsTrue (nat_eq (bit_and n 2155905152) 0) ↔ AreAscii (take 4 xs))
  unfolding number_at
  ascii_4 long is =
      let whole : n ≡ word_from xs 0 4 = omega (arith, is) in
      low_number xs 4 n 2155905152 whole refl (low_word xs 4 small long)

  pub ascii_8 : 8 ≤ length xs → n ≡ number_at w64 xs 0
      → (IsTrue (nat_eq (bit_and n 9259542123273814144) 0) ↔ AreAscii (take 8 xs))
  unfolding number_at
  ascii_8 long is =
      let whole : n ≡ word_from xs 0 8 = omega (arith, is) in
      low_number xs 8 n 9259542123273814144 whole refl (low_word xs 8 small long)

-- what holds of the bytes in front and of those at the end, where these meet, holds of all
all_over : (P : ℕ → Type 0) (xs : List ℕ) (k j : ℕ) → j ≤ k → AllByRecursion P (take k xs)
    → AllByRecursion P (drop j xs) → AllByRecursion P xs
all_over P [] k j meet front end = tt
all_over P (x ∷ xs) k zero meet front end = end
all_over P (x ∷ xs) zero (suc j) meet front end = absurd (omega (arith, meet))
all_over P (x ∷ xs) (suc k) (suc j) meet front end = (front.0, all_over P xs k j (omega (arith, meet)) front.1 end)

all_front : (P : ℕ → Type 0) (xs : List ℕ) (n : ℕ) → AllByRecursion P xs → AllByRecursion P (take n xs)
all_front P xs zero all = tt
all_front P [] (suc n) all = tt
all_front P (x ∷ xs) (suc n) all = (all.0, all_front P xs n all.1)

all_after : (P : ℕ → Type 0) (xs : List ℕ) (n : ℕ) → AllByRecursion P xs → AllByRecursion P (drop n xs)
all_after P xs zero all = all
all_after P [] (suc n) all = tt
all_after P (x ∷ xs) (suc n) all = all_after P xs n all.1

-- so do so many bytes in front and so many at the end, which are all of it
pub all_ends : (P : ℕ → Type 0) (xs : List ℕ) (front back : ℕ) → back ≤ length xs → length xs ≤ front + back
    → (AllByRecursion P xs ↔ (AllByRecursion P (take front xs)
    × AllByRecursion P (take (length xs - (length xs - back)) (drop (length xs - back) xs))))
all_ends P xs front back long meet =
    let last : take (length xs - (length xs - back)) (drop (length xs - back) xs) ≡ drop (length xs - back) xs =
    take_rest xs (length xs - back) in (
      λ all. (
        all_front P xs front all,
        subst (AllByRecursion P) (sym last) (all_after P xs (length xs - back) all),
      ),
      λ both. all_over P xs front (length xs - back) (omega (arith, meet)) both.0
          (subst (AllByRecursion P) last both.1),
    )

-- the same of n bytes in front and n at the end
pub all_halves : (P : ℕ → Type 0) (xs : List ℕ) (n : ℕ) → n ≤ length xs → length xs ≤ n + n
    → (AllByRecursion P xs ↔ (AllByRecursion P (take n xs)
    × AllByRecursion P (take n (take (length xs - (length xs - n)) (drop (length xs - n) xs)))))
all_halves P xs n long meet =
    let end = take (length xs - (length xs - n)) (drop (length xs - n) xs) in
    let whole : take n end ≡ end =
    take_all n end (omega (
      arith,
      length-take (length xs - (length xs - n)) (drop (length xs - n) xs),
      length-drop (length xs - n) xs,
      long,
    )) in
    subst (λ ys. AllByRecursion P xs ↔ (AllByRecursion P (take n xs) × AllByRecursion P ys)) (sym whole)
    (all_ends P xs n n long meet)
