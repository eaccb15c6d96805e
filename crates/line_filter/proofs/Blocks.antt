-- Digits many at a time: what is computed lane by lane, and what a block reads and writes.
use Rattle.std.proofs.Common.{◌≡◌, ℕ, zero, suc, ◌+◌, ◌*◌, ◌/◌, ◌%◌, ◌^◌, ◌<◌, ◌≤◌, ◌==◌, Bool, true}
use Rattle.std.proofs.Common.{false, not, ◌||◌}
use Rattle.std.proofs.Common.{List, [], ◌∷◌, ◌++◌, map, length, take}
use Rattle.std.proofs.Common.{drop, get_or, slice_index, cond, bit_or, refl, sym, ap}
use Rattle.std.proofs.Common.{◌∙◌, arith, Fits, w8, Ok, Err, Result, eqb, inl, inr, append_assoc}
use Rattle.std.specs.Prelude.{nat_lt, replicate}
use Rattle.std.specs.Bool.{OnTrue}
use Rattle.std.specs.List.{range_with_len}
use Rattle.std.proofs.lemmas.Bool.{agree_below, agree_below_at, not-true, OnTrue_from, eqb-true, cases_eq}
use Rattle.std.proofs.lemmas.Bool.Decides.{nat_tests}
use Rattle.std.proofs.lemmas.List.{get_or-map, length-map, get_or_append_left, get_or-append-add, drop_more, ext_get_or}
use Rattle.std.proofs.lemmas.List.FromFn.{get_or-map-range_with_len}
use Rattle.std.proofs.lemmas.List.Sums.{prefix_len_passes}
use Rattle.std.proofs.lemmas.Grind.{or_after_shift}
use Rattle.std.proofs.lemmas.Simd.{zip2_of_maps, splat_is_map, zip2_splat, zip2_splat_left, map-map, mask_l-mod}
use Rattle.std.proofs.lemmas.Simd.{leading_from_mask_l, Each1-get_or, get_or-chunk, length-chunk, chunk-drop}
use Rattle.std.proofs.lemmas.Simd.{take_more_put_chunk, length-put_chunk}
use lib.Lanes.{Each1, chunk, put_chunk, zip2, sel_l, mask_l, top}
use Rattle.hex.specs.Hex.{hex_digit_value, pair_value, value_at, digit_or_error, decode_pairs, encode_with}
use Rattle.hex.specs.Hex.{lower_digits}
use Rattle.hex.specs.declared.error.FromHexError.{FromHexError}
use Rattle.hex.proofs.Pairs.{prepend, cons_byte, decode_pairs-ok_pair}
use Rattle.hex.proofs.HexLemmas.{length-encode_with}
use Rattle.line_filter.specs.Digits.{listed}
use Rattle.line_filter.specs.Lanes.{Reads, Spelled, Decoded, Encoded}
use Rattle.line_filter.proofs.Spelling.{all_agree, all_agree-at, listed-low}

-- ** one vector that is made of others lane by lane
pub joined : (h : ℕ → ℕ → ℕ) (f g : ℕ → ℕ) (v : List ℕ) {a b : List ℕ} → a ≡ map f v → b ≡ map g v
    → zip2 h a b ≡ map (λ x. h (f x) (g x)) v
joined h f g v p q = zip2_of_maps h f g v p q

pub splat_is : (v : List ℕ) (n y : ℕ) → length v ≡ n → replicate n y ≡ map (λ _. y) v
splat_is v n y long = splat_is_map v n y long

pub itself : (v : List ℕ) → v ≡ map (λ x. x) v
itself [] = refl
itself (x ∷ xs) = ap (λ r. x ∷ r) (itself xs)

pub mapped : (h f : ℕ → ℕ) (v : List ℕ) {a : List ℕ} → a ≡ map f v → map h a ≡ map (λ x. h (f x)) v
mapped h f v p = ap (map h) p ∙ map-map h f v

pub with_splat : (h : ℕ → ℕ → ℕ) (v : List ℕ) (n y : ℕ) → length v ≡ n → zip2 h v (replicate n y) ≡ map (λ x. h x y) v
with_splat h v n y long = zip2_splat h v n y long

pub splat_with : (h : ℕ → ℕ → ℕ) (v : List ℕ) (n y : ℕ) → length v ≡ n → zip2 h (replicate n y) v ≡ map (λ x. h y x) v
splat_with h v n y long = zip2_splat_left h y n v long

chosen_of_maps : (p f g : ℕ → ℕ) (xs : List ℕ) → sel_l (map (top 7) (map p xs)) (map f xs) (map g xs)
    ≡ map (λ x. cond (top 7 (p x)) (f x) (g x)) xs
chosen_of_maps p f g [] = refl
chosen_of_maps p f g (x ∷ xs) = ap (λ r. cond (top 7 (p x)) (f x) (g x) ∷ r) (chosen_of_maps p f g xs)

pub chosen : (p f g : ℕ → ℕ) (v : List ℕ) {m a b : List ℕ} → m ≡ map p v → a ≡ map f v → b ≡ map g v
    → sel_l (map (top 7) m) a b ≡ map (λ x. cond (top 7 (p x)) (f x) (g x)) v
chosen p f g v hm ha hb = rw (hm, ha, hb) (chosen_of_maps p f g v)

pub values_read : (v z : List ℕ) (f : ℕ → ℕ) → length v ≡ 32 → Each1 (Fits w8) v → z ≡ map f v
    → all_agree f 256 ≡ true → Reads 32 v z
values_read v z f long fits lanes all k lt =
    let at : get_or z k 0 ≡ f (get_or v k 0) = ap (λ l. get_or l k 0) lanes ∙ get_or-map f v k 0 0 (omega arith) in
    let fit = Each1-get_or (Fits w8) v k 0 (omega arith) fits in
    rw at (all_agree-at f 256 (get_or v k 0) all fit.fits)

-- no lane stops: each is below 16
pub all_below_16 : (v z : List ℕ) (f : ℕ → ℕ) → length v ≡ 32 → Each1 (Fits w8) v → z ≡ map f v
    → mask_l (map (top 7) z) % 2 ^ 64 ≡ 0
    → agree_below (λ x. top 7 (f x) || nat_lt x 16) (λ _. true) 256 ≡ true
    → (k : ℕ) → k < 32 → get_or v k 0 < 16
all_below_16 v z f long fits lanes none all k lt =
    let stops : ℕ → Bool = λ x. top 7 (f x) in
    let mask = ap (λ l. mask_l l % 2 ^ 64) (ap (map (top 7)) lanes ∙ map-map (top 7) f v)
    ∙ mask_l-mod (map stops v) 64 (omega (arith, length-map v stops, long)) in
    let passes = leading_from_mask_l stops v (sym mask ∙ none) in
    let goes : stops (get_or v k 0) ≡ false =
    not-true _ (prefix_len_passes (λ x. not (stops x)) v k 0 (omega (arith, passes, long))) in
    let fit = Each1-get_or (Fits w8) v k 0 (omega arith) fits in
    let tested = agree_below_at (λ x. stops x || nat_lt x 16) (λ _. true) 256 (get_or v k 0) all fit.fits in
    let low : nat_lt (get_or v k 0) 16 ≡ true = sym (ap (λ b. b || nat_lt (get_or v k 0) 16) goes) ∙ tested in
    grind (arith, nat_tests)

pub are_below_16 : (v z : List ℕ) (f : ℕ → ℕ) → length v ≡ 32 → Each1 (Fits w8) v → z ≡ map f v
    → agree_below (λ x. top 7 (f x) || nat_lt x 16) (λ _. true) 256 ≡ true
    → OnTrue (eqb (mask_l (map (top 7) z) % 2 ^ 64) 0) ((k : ℕ) → k < 32 → get_or v k 0 < 16)
are_below_16 v z f long fits lanes all =
    OnTrue_from (eqb (mask_l (map (top 7) z) % 2 ^ 64) 0) ((k : ℕ) → k < 32 → get_or v k 0 < 16)
    (λ none. all_below_16 v z f long fits lanes (eqb-true _ _ none) all)

pub digits_spelled : (v z : List ℕ) (f : ℕ → ℕ) → length v ≡ 16 → z ≡ map f v
    → ((k : ℕ) → k < 16 → get_or v k 0 < 16)
    → agree_below (λ x. f x == slice_index lower_digits x) (λ _. true) 16 ≡ true → Spelled 16 v z
digits_spelled v z f long lanes low all k lt =
    let at : get_or z k 0 ≡ f (get_or v k 0) = ap (λ l. get_or l k 0) lanes ∙ get_or-map f v k 0 0 (omega arith) in
    let tested = agree_below_at (λ x. f x == slice_index lower_digits x) (λ _. true) 16 (get_or v k 0) all (low k lt) in
    at ∙ eqb-true _ _ tested

-- a lane of what is computed lane by lane from a load
pub loaded : (xs z : List ℕ) (at n : ℕ) (f : ℕ → ℕ) → at + n ≤ length xs → z ≡ map f (chunk at n xs)
    → (k : ℕ) → k < n → get_or z k 0 ≡ f (get_or xs (at + k) 0)
loaded xs z at n f room lanes k lt =
    let long = length-chunk at n xs room in
    ap (λ l. get_or l k 0) lanes ∙ get_or-map f (chunk at n xs) k 0 0 (omega arith)
    ∙ ap f (get_or-chunk at n xs k 0 lt)

pub below_16_of : (xs z : List ℕ) (at : ℕ) (f : ℕ → ℕ) → at + 16 ≤ length xs → ((k : ℕ) → Fits w8 (get_or xs k 0))
    → z ≡ map f (chunk at 16 xs) → agree_below (λ x. nat_lt (f x) 16) (λ _. true) 256 ≡ true
    → (k : ℕ) → k < 16 → get_or z k 0 < 16
below_16_of xs z at f room fits lanes all k lt =
    let here = loaded xs z at 16 f room lanes k lt in
    let fit = fits (at + k) in
    let tested = agree_below_at (λ x. nat_lt (f x) 16) (λ _. true) 256 (get_or xs (at + k) 0) all fit.fits in
    let low : f (get_or xs (at + k) 0) < 16 = grind (arith, nat_tests) in
    rw here low

-- a lane that is computed from a load is what g says
pub lane_of : (xs z : List ℕ) (at : ℕ) (f g : ℕ → ℕ) → at + 16 ≤ length xs → ((k : ℕ) → Fits w8 (get_or xs k 0))
    → z ≡ map f (chunk at 16 xs) → agree_below (λ x. f x == g x) (λ _. true) 256 ≡ true
    → (k : ℕ) → k < 16 → get_or z k 0 ≡ g (get_or (chunk at 16 xs) k 0)
lane_of xs z at f g room fits lanes all k lt =
    let here = loaded xs z at 16 f room lanes k lt in
    let fit = fits (at + k) in
    let tested = agree_below_at (λ x. f x == g x) (λ _. true) 256 (get_or xs (at + k) 0) all fit.fits in
    here ∙ eqb-true _ _ tested ∙ ap g (sym (get_or-chunk at 16 xs k 0 lt))

-- ** a block is read
pub pair_of : (a b h l i : ℕ) → hex_digit_value a ≡ listed h → hex_digit_value b ≡ listed l → h < 16 → l < 16
    → pair_value a b i ≡ Ok (h * 16 + l)
pair_of a b h l i p q low low2 =
    let first : value_at a i ≡ Ok h = ap (digit_or_error a i) (p ∙ listed-low h low) in
    let second : value_at b (i + 1) ≡ Ok l = ap (digit_or_error b (i + 1)) (q ∙ listed-low l low2) in
    rw (first, second) refl

abbrev pub byte_of : List ℕ → ℕ → ℕ
byte_of vs j = bit_or (get_or (vs ++ vs) (2 * j) 0 * 16 % 256) (get_or (vs ++ vs) (2 * j + 1) 0)

byte_is : (vs : List ℕ) (j : ℕ) → length vs ≡ 32 → j < 16 → ((k : ℕ) → k < 32 → get_or vs k 0 < 16)
    → byte_of vs j ≡ get_or vs (2 * j) 0 * 16 + get_or vs (2 * j + 1) 0
byte_is vs j long lt low =
    let first = get_or_append_left vs vs 0 (2 * j) (omega arith) in
    let second = get_or_append_left vs vs 0 (2 * j + 1) (omega arith) in
    let high = low (2 * j) (omega arith) in
    rw (first, second)
    (or_after_shift (get_or vs (2 * j) 0) 16 256 (get_or vs (2 * j + 1) 0) refl (low (2 * j + 1) (omega arith))
    (omega arith))

pub block_decoded : (digits vs old : List ℕ) (at to : ℕ) → at + 32 ≤ length digits → to + 16 ≤ length old
    → length vs ≡ 32 → Reads 32 (chunk at 32 digits) vs → ((k : ℕ) → k < 32 → get_or vs k 0 < 16)
    → Decoded digits at old (put_chunk to old (map (byte_of vs) (range_with_len 0 16))) to
block_decoded digits vs old at to from room long reads low = record {
  bytes = map (byte_of vs) (range_with_len 0 16);
  sixteen = refl;
  stored = take_more_put_chunk to old (map (byte_of vs) (range_with_len 0 16)) (to + 16) refl (omega arith);
  each = λ i j lt.
      let byte : get_or (map (byte_of vs) (range_with_len 0 16)) j 0 ≡ byte_of vs j =
      get_or-map-range_with_len (byte_of vs) 0 16 j j 0 lt (omega arith) in
      let first : hex_digit_value (get_or digits (at + 2 * j) 0) ≡ listed (get_or vs (2 * j) 0) =
      ap hex_digit_value (sym (get_or-chunk at 32 digits (2 * j) 0 (omega arith))) ∙ reads (2 * j) (omega arith) in
      let second : hex_digit_value (get_or digits (at + (2 * j + 1)) 0) ≡ listed (get_or vs (2 * j + 1) 0) =
      ap hex_digit_value (sym (get_or-chunk at 32 digits (2 * j + 1) 0 (omega arith)))
      ∙ reads (2 * j + 1) (omega arith) in
      pair_of (get_or digits (at + 2 * j) 0) (get_or digits (at + (2 * j + 1)) 0) (get_or vs (2 * j) 0)
      (get_or vs (2 * j + 1) 0) i first second (low (2 * j) (omega arith)) (low (2 * j + 1) (omega arith))
      ∙ ap Ok (sym (byte ∙ byte_is vs j long lt low));
}

prepend-none : (r : Result (List ℕ) FromHexError) → r ≡ prepend [] r
prepend-none (Ok rest) = refl
prepend-none (Err e) = refl

prepend-cons : (y : ℕ) (ys : List ℕ) (r : Result (List ℕ) FromHexError)
    → cons_byte y (prepend ys r) ≡ prepend (y ∷ ys) r
prepend-cons y ys (Ok rest) = refl
prepend-cons y ys (Err e) = refl

prepend-join : (xs ys : List ℕ) (r : Result (List ℕ) FromHexError)
    → prepend xs (prepend ys r) ≡ prepend (xs ++ ys) r
prepend-join xs ys (Ok rest) = ap Ok (sym (append_assoc xs ys rest))
prepend-join xs ys (Err e) = refl

-- pairs that read, one after another
pairs_read : (s ys : List ℕ) (p : ℕ) → p + 2 * length ys ≤ length s
    → ((i j : ℕ) → j < length ys
    → pair_value (get_or s (p + 2 * j) 0) (get_or s (p + (2 * j + 1)) 0) i ≡ Ok (get_or ys j 0))
    → decode_pairs p (drop p s) ≡ prepend ys (decode_pairs (p + 2 * length ys) (drop (p + 2 * length ys) s))
pairs_read s [] p fits each =
    let end : p ≡ p + 2 * 0 = omega arith in
    prepend-none (decode_pairs p (drop p s)) ∙ ap (λ (k : ℕ). prepend [] (decode_pairs k (drop k s))) end
pairs_read s (y ∷ ys) p fits each =
    let rest : List ℕ = drop (p + 2) s in
    let a = drop_more s p 0 (omega arith) in
    let b = drop_more s (p + 1) 0 (omega arith) in
    let two : p + 1 + 1 ≡ p + 2 = omega arith in
    let cut : drop p s ≡ get_or s p 0 ∷ get_or s (p + 1) 0 ∷ rest = rw (a, b, two) refl in
    let zeroth : p + 2 * 0 ≡ p = omega arith in
    let first : pair_value (get_or s p 0) (get_or s (p + 1) 0) p ≡ Ok y = rw zeroth at (each p 0 (omega arith)) in
    let later = pairs_read s ys (p + 2) (omega arith)
    (λ i j lt.
    let one : p + 2 + 2 * j ≡ p + 2 * suc j = omega arith in
    let other : p + 2 + (2 * j + 1) ≡ p + (2 * suc j + 1) = omega arith in
    rw (one, other) (each i (suc j) (omega arith))) in
    let end : p + 2 + 2 * length ys ≡ p + 2 * suc (length ys) = omega arith in
    ap (decode_pairs p) cut ∙ decode_pairs-ok_pair p _ _ y rest first
    ∙ ap (cons_byte y) (later ∙ ap (λ (k : ℕ). prepend ys (decode_pairs k (drop k s))) end)
    ∙ prepend-cons y ys _

pub decode_more : (s old new : List ℕ) (done : ℕ) → 2 * done + 32 ≤ length s → Decoded s (2 * done) old new done
    → decode_pairs 0 s ≡ prepend (take done old) (decode_pairs (2 * done) (drop (2 * done) s))
    → decode_pairs 0 s ≡ prepend (take (done + 16) new) (decode_pairs (2 * (done + 16)) (drop (2 * (done + 16)) s))
decode_more s old new done fits is inv =
    let long = is.sixteen in
    let pairs = pairs_read s is.bytes (2 * done) (omega arith) (λ i j lt. is.each i j (omega arith)) in
    let end : 2 * done + 2 * length is.bytes ≡ 2 * (done + 16) = omega arith in
    inv ∙ ap (prepend (take done old)) (pairs ∙ ap (λ (k : ℕ). prepend is.bytes (decode_pairs k (drop k s))) end)
    ∙ prepend-join (take done old) is.bytes _
    ∙ ap (λ (f : List ℕ). prepend f (decode_pairs (2 * (done + 16)) (drop (2 * (done + 16)) s))) (sym is.stored)

-- ** a block is written
encode_at : (t xs : List ℕ) (j : ℕ) → j < length xs
    → (get_or (encode_with t xs) (2 * j) 0 ≡ get_or t (get_or xs j 0 / 16) 0)
    × (get_or (encode_with t xs) (2 * j + 1) 0 ≡ get_or t (get_or xs j 0 % 16) 0)
unfolding encode_with
encode_at t [] j lt = absurd (omega arith)
encode_at t (x ∷ xs) zero lt = (refl, refl)
encode_at t (x ∷ xs) (suc j) lt =
    let more = encode_at t xs j (omega arith) in
    let one : 2 * suc j ≡ suc (suc (2 * j)) = omega arith in
    let other : 2 * suc j + 1 ≡ suc (suc (2 * j + 1)) = omega arith in
    (rw one more.0, rw other more.1)

-- digits of high and low halves, in turn
abbrev pub woven : List ℕ → List ℕ → ℕ → ℕ
woven hs ls k = get_or (hs ++ ls) (k / 2 + 16 * (k % 2)) 0

woven_at : (hs ls vs : List ℕ) (k : ℕ) → length hs ≡ 16 → length ls ≡ 16 → length vs ≡ 16
    → ((j : ℕ) → j < 16 → get_or hs j 0 ≡ get_or lower_digits (get_or vs j 0 / 16) 0)
    → ((j : ℕ) → j < 16 → get_or ls j 0 ≡ get_or lower_digits (get_or vs j 0 % 16) 0)
    → k < 32 → woven hs ls k ≡ get_or (encode_with lower_digits vs) k 0
woven_at hs ls vs k hl ll vl hi lo lt =
    let both = encode_at lower_digits vs (k / 2) (omega arith) in
    elim (cases_eq (k % 2) 0) [
      | inl even ↦
          let here : k ≡ 2 * (k / 2) = omega arith in
          let place : k / 2 + 16 * (k % 2) ≡ k / 2 = omega arith in
          rw place (get_or_append_left hs ls 0 (k / 2) (omega arith)) ∙ hi (k / 2) (omega arith)
          ∙ sym both.0 ∙ ap (λ (n : ℕ). get_or (encode_with lower_digits vs) n 0) (sym here)
      | inr odd ↦
          let here : k ≡ 2 * (k / 2) + 1 = omega arith in
          let place : k / 2 + 16 * (k % 2) ≡ length hs + k / 2 = omega arith in
          rw place (get_or-append-add hs ls (k / 2) 0) ∙ lo (k / 2) (omega arith)
          ∙ sym both.1 ∙ ap (λ (n : ℕ). get_or (encode_with lower_digits vs) n 0) (sym here)
    ]

pub block_encoded : (bytes hs ls old : List ℕ) (at to : ℕ) → at + 16 ≤ length bytes → to + 32 ≤ length old
    → length hs ≡ 16 → length ls ≡ 16
    → ((j : ℕ) → j < 16 → get_or hs j 0 ≡ get_or lower_digits (get_or (chunk at 16 bytes) j 0 / 16) 0)
    → ((j : ℕ) → j < 16 → get_or ls j 0 ≡ get_or lower_digits (get_or (chunk at 16 bytes) j 0 % 16) 0)
    → Encoded bytes at old (put_chunk (to + 16) (put_chunk to old (map (woven hs ls) (range_with_len 0 16)))
    (map (woven hs ls) (range_with_len 16 16))) to
block_encoded bytes hs ls old at to from room hl ll hi lo =
    let vs : List ℕ = chunk at 16 bytes in
    let long : length vs ≡ 16 = length-chunk at 16 bytes from in
    let front : List ℕ = map (woven hs ls) (range_with_len 0 16) in
    let back : List ℕ = map (woven hs ls) (range_with_len 16 16) in
    let all : List ℕ = map (woven hs ls) (range_with_len 0 32) in
    let once : List ℕ = put_chunk to old front in
    let size : length once ≡ length old = length-put_chunk to old front in
    let first : take (to + 16) once ≡ take to old ++ front =
    take_more_put_chunk to old front (to + 16) refl (omega arith) in
    let second : take (to + 32) (put_chunk (to + 16) once back) ≡ take (to + 16) once ++ back =
    take_more_put_chunk (to + 16) once back (to + 32) (omega arith) (omega arith) in
    let joined_all : front ++ back ≡ all = refl in
    let size_of : length (encode_with lower_digits vs) ≡ 2 * length vs = length-encode_with lower_digits vs in
    let whole : all ≡ encode_with lower_digits vs =
    ext_get_or 0 all (encode_with lower_digits vs) (omega arith)
    (λ k lt. get_or-map-range_with_len (woven hs ls) 0 32 k k 0 lt (omega arith)
    ∙ woven_at hs ls vs k hl ll long hi lo lt) in
    second ∙ ap (λ l. l ++ back) first ∙ append_assoc (take to old) front back
    ∙ ap (λ l. take to old ++ l) (joined_all ∙ whole)

encode_joined : (t xs ys : List ℕ) → encode_with t xs ++ encode_with t ys ≡ encode_with t (xs ++ ys)
unfolding encode_with
encode_joined t [] ys = refl
encode_joined t (x ∷ xs) ys =
    ap (λ l. get_or t (x / 16) 0 ∷ get_or t (x % 16) 0 ∷ l) (encode_joined t xs ys)

pub encode_more : (input old new : List ℕ) (done : ℕ) → Encoded input done old new (2 * done)
    → take (2 * done) old ++ encode_with lower_digits (drop done input) ≡ encode_with lower_digits input
    → take (2 * (done + 16)) new ++ encode_with lower_digits (drop (done + 16) input)
    ≡ encode_with lower_digits input
encode_more input old new done is inv =
    let end : 2 * (done + 16) ≡ 2 * done + 32 = omega arith in
    let front : List ℕ = take 16 (drop done input) in
    let cut : drop done input ≡ front ++ drop (done + 16) input = chunk-drop done 16 input in
    rw end (ap (λ l. l ++ encode_with lower_digits (drop (done + 16) input)) is
    ∙ append_assoc (take (2 * done) old) (encode_with lower_digits front) _
    ∙ ap (λ l. take (2 * done) old ++ l)
    (encode_joined lower_digits front (drop (done + 16) input) ∙ ap (encode_with lower_digits) (sym cut))
    ∙ inv)
