-- Texts that were stored and looked at block by block.
use Rattle.std.proofs.Common.{◌≡◌, ℕ, ◌+◌, ◌-◌, ◌<◌, ◌≤◌, ◌⊎◌, inl, inr, Bool, true, false, ◌&&◌, List, length, take}
use Rattle.std.proofs.Common.{drop, get_or}
use Rattle.std.proofs.Common.{zero, suc, ◌*◌, ◌==◌, ◌||◌, not, cond, [], ◌∷◌, map, Fits, w8, refl, ◌%◌, ◌^◌}
use Rattle.std.proofs.Common.{ap, sym, ◌∙◌, arith, get_or-drop, get_or-take, length-drop, length-take-le, take-add}
use Rattle.std.proofs.Common.{take-append-drop}
use Rattle.std.proofs.lemmas.Bool.{agree_below, agree_below_at, cases_lt, eqb-true}
use Rattle.std.proofs.lemmas.List.{length-map}
use Rattle.std.proofs.lemmas.Simd.{chunk-fits, get_or-chunk, length-chunk, mask_l-mod}
use lib.Lanes.{chunk, mask_l, top, Each1}
use Rattle.std.specs.Bool.{OnTrue}
use Rattle.json.specs.Filled.{Placed}
use Rattle.json.proofs.Printed.Places.{Placed-then}
use Rattle.shown.specs.Escapes.{PlainBetween, may_escape}

-- ** what a test of the lanes tells

none_set : (p : ℕ → Bool) (xs : List ℕ) → mask_l (map p xs) ≡ 0 → (k : ℕ) → k < length xs → p (get_or xs k 0) ≡ false
none_set p [] none k within = absurd (omega arith)
none_set p (x ∷ xs) none k within =
    by (p x) refl none k within (λ rest k within. none_set p xs rest k within)
  where
    by : (b : Bool) → p x ≡ b → cond b 1 0 + 2 * mask_l (map p xs) ≡ 0 → (k : ℕ) → k < suc (length xs)
        → (mask_l (map p xs) ≡ 0 → (k : ℕ) → k < length xs → p (get_or xs k 0) ≡ false)
        → p (get_or (x ∷ xs) k 0) ≡ false
    by true is none k within rest = absurd (omega arith)
    by false is none zero within rest = is
    by false is none (suc k) within rest = rest (omega arith) k (omega arith)

each_lane : (f : ℕ → ℕ) (p : ℕ → Bool) → agree_below (λ x. top 7 (f x)) p 256 ≡ true
    → (v : List ℕ) → Each1 (Fits w8) v → map (top 7) (map f v) ≡ map p v
each_lane f p same [] fits = refl
each_lane f p same (x ∷ v) fits =
    λ i. agree_below_at (λ x. top 7 (f x)) p 256 x same fits.0.fits i ∷ each_lane f p same v fits.1 i

on_true : (b : Bool) (P : Type 0) → (b ≡ true → P) → OnTrue b P
on_true true P f = f refl
on_true false P f = tt

-- lanes in which a test is computed that each byte passes of which q is true: where none does, q is true of none
pub clear_lanes : (q : ℕ → Bool) (f : ℕ → ℕ) (p : ℕ → Bool) → agree_below (λ x. top 7 (f x)) p 256 ≡ true
    → agree_below (λ x. p x || not (q x)) (λ _. true) 256 ≡ true
    → (d : List ℕ) (i n : ℕ) → i + n ≤ length d → n ≤ 64 → ((k : ℕ) → Fits w8 (get_or d k 0))
    → (z : List ℕ) → z ≡ map f (chunk i n d)
    → OnTrue (mask_l (map (top 7) z) % 2 ^ 64 == 0) ((k : ℕ) → i ≤ k → k < i + n → not (q (get_or d k 0)) ≡ true)
clear_lanes q f p same so d i n room few fits z is =
    let v = chunk i n d in
    let long = length-chunk i n d room in
    let mask : mask_l (map (top 7) z) % 2 ^ 64 ≡ mask_l (map p v) =
    ap (λ l. mask_l (map (top 7) l) % 2 ^ 64) is
    ∙ ap (λ l. mask_l l % 2 ^ 64) (each_lane f p same v (chunk-fits w8 i n d fits))
    ∙ mask_l-mod (map p v) 64 (omega (arith, length-map v p)) in
    let clear : (mask_l (map (top 7) z) % 2 ^ 64 == 0) ≡ true
    → (k : ℕ) → i ≤ k → k < i + n → not (q (get_or d k 0)) ≡ true =
    λ e k from to.
    let back : i + (k - i) ≡ k = omega arith in
    let at : get_or v (k - i) 0 ≡ get_or d k 0 =
    get_or-chunk i n d (k - i) 0 (omega arith) ∙ ap (λ j. get_or d j 0) back in
    let none : p (get_or d k 0) ≡ false =
    ap p (sym at) ∙ none_set p v (sym mask ∙ eqb-true _ 0 e) (k - i) (omega arith) in
    sym (ap (λ b. b || not (q (get_or d k 0))) none)
    ∙ agree_below_at (λ x. p x || not (q x)) (λ _. true) 256 (get_or d k 0) so (fits k).fits in
    on_true _ _ clear

-- where no byte may need an escape
pub plain_lanes : (f : ℕ → ℕ) (p : ℕ → Bool) → agree_below (λ x. top 7 (f x)) p 256 ≡ true
    → agree_below (λ x. p x || not (may_escape x)) (λ _. true) 256 ≡ true
    → (d : List ℕ) (i n : ℕ) → i + n ≤ length d → n ≤ 64 → ((k : ℕ) → Fits w8 (get_or d k 0))
    → (z : List ℕ) → z ≡ map f (chunk i n d)
    → OnTrue (mask_l (map (top 7) z) % 2 ^ 64 == 0) (PlainBetween d i (i + n))
plain_lanes = clear_lanes may_escape

-- ** parts of texts

-- two parts that meet or overlap
pub joined : (d : List ℕ) (i j m n : ℕ) → j ≤ m → PlainBetween d i m → PlainBetween d j n → PlainBetween d i n
joined d i j m n meet front back k from to = go (cases_lt k m)
  where
    go : (k < m) ⊎ (m ≤ k) → not (may_escape (get_or d k 0)) ≡ true
    go (inl before) = front k from before
    go (inr after) = back k (omega arith) to

pub both_plain : (d : List ℕ) (i j m n : ℕ) (a b c : Bool) → j ≤ m → c ≡ a && b → OnTrue a (PlainBetween d i m)
    → OnTrue b (PlainBetween d j n) → OnTrue c (PlainBetween d i n)
both_plain d i j m n true true true meet is front back = joined d i j m n meet front back
both_plain d i j m n a b false meet is front back = tt
both_plain d i j m n true false true meet is front back = absurd cc
both_plain d i j m n false b true meet is front back = absurd cc

-- the plain bytes of what is left of a text
pub rest_plain : (d : List ℕ) (done : ℕ) (b : Bool) → done ≤ length d
    → OnTrue b (PlainBetween (drop done d) 0 (length (drop done d))) → OnTrue b (PlainBetween d done (length d))
rest_plain d done false within h = tt
rest_plain d done true within h = λ k from to.
    let back : done + (k - done) ≡ k = omega arith in
    ap (λ x. not (may_escape x)) (ap (λ j. get_or d j 0) (sym back) ∙ sym (get_or-drop done d (k - done) 0))
    ∙ h (k - done) (omega arith) (omega (arith, length-drop done d))

-- the plain bytes of a part of a text
pub part_plain : (d : List ℕ) (from n : ℕ) → from + n ≤ length d
    → PlainBetween (take n (drop from d)) 0 (length (take n (drop from d))) → PlainBetween d from (from + n)
part_plain d from n within h = λ k low high.
    let back : from + (k - from) ≡ k = omega arith in
    let long : length (take n (drop from d)) ≡ n = length-take-le n (drop from d) (omega (arith, length-drop from d)) in
    ap (λ x. not (may_escape x)) (ap (λ j. get_or d j 0) (sym back) ∙ sym (get_or-drop from d (k - from) 0)
    ∙ sym (get_or-take n (drop from d) (k - from) 0 (omega arith)))
    ∙ h (k - from) (omega arith) (omega (arith, long))

-- n bytes more of a text behind its first ones
pub stored_more : {a b c : List ℕ} (text : List ℕ) (done n at : ℕ) → done + n ≤ length text
    → Placed a b at (take done text) (at + done)
    → Placed b c (at + done) (take n (drop done text)) (at + done + n)
    → Placed a c at (take (done + n) text) (at + (done + n))
stored_more text done n at within front more =
    let both = Placed-then front more in
    let end : at + done + n ≡ at + (done + n) = omega arith in
    rw (take-add done n text, ← end) both

-- the rest of a text behind its first bytes
pub stored_all : {a b c : List ℕ} (text : List ℕ) (done at : ℕ) → done ≤ length text
    → Placed a b at (take done text) (at + done)
    → Placed b c (at + done) (drop done text) (at + done + length (drop done text))
    → Placed a c at text (at + length text)
stored_all text done at within front rest =
    let both = Placed-then front rest in
    let end : at + done + length (drop done text) ≡ at + length text = omega (arith, length-drop done text) in
    rw end at (rw (take-append-drop done text) at both)
