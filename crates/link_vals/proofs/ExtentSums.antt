-- The sum of the list of a mask is the mask.
use Rattle.std.proofs.Common.{◌≡◌, ◌≢◌, ℕ, zero, suc, ◌+◌, ◌*◌, ◌/◌, ◌<◌, ◌^◌, ◌==◌, Bool, true, false, if◌then◌else◌}
use Rattle.std.proofs.Common.{List, [], ◌∷◌, ◌++◌, refl, sym, ap, ◌∙◌, arith}
use Rattle.std.specs.Int.RustNames.{bit_and}
use Rattle.std.specs.Int.{bit_at}
use Rattle.std.proofs.lemmas.Bool.{eqb-true, eqb-false}
use Rattle.std.proofs.Math.Nat.{div-div-eq-div-mul}
use Rattle.std.proofs.lemmas.Nat.{pow-add}
use Rattle.std.proofs.lemmas.Nat.Bits.{and_pow, and_high_mask, bit_at-lt}
use Rattle.link_vals.specs.declared.ext_mask.LinkExtentMask.{LinkExtentMask}
use Rattle.link_vals.specs.declared.ext_mask.LinkExtentMask.TheVariants.{Vf, Brvlan, BrvlanCompressed, SkipStats, Mrp}
use Rattle.link_vals.specs.declared.ext_mask.LinkExtentMask.TheVariants.{CfmConfig, CfmStatus, Mst, Other}
use Rattle.link_vals.specs.LinkExtentMaskTable.{link_extent_mask_number, flags_set, other_of, ext_list, ext_sum}
use Rattle.link_vals.specs.Laws.{SumsBack}

sum-append : (xs ys : List LinkExtentMask) → ext_sum (xs ++ ys) ≡ ext_sum xs + ext_sum ys
sum-append [] ys = omega arith
sum-append (x ∷ xs) ys = omega (arith, sum-append xs ys)

-- a bit is all of its power of two, or nothing
no_bit : (b p : ℕ) → b < 2 → b * p ≢ p → b * p ≡ 0
no_bit zero p small differs = omega arith
no_bit (suc zero) p small differs = absurd (differs (omega arith))
no_bit (suc (suc b)) p small differs = absurd (omega arith)

sum_if : (flag : LinkExtentMask) (rest : List LinkExtentMask) (part : ℕ) (same : Bool)
    → (part == link_extent_mask_number flag) ≡ same
    → (part ≢ link_extent_mask_number flag → part ≡ 0)
    → ext_sum (if same then flag ∷ rest else rest) ≡ part + ext_sum rest
sum_if flag rest part true is unset = omega (arith, eqb-true part (link_extent_mask_number flag) is)
sum_if flag rest part false is unset = omega (arith, unset (eqb-false part (link_extent_mask_number flag) is))

-- what the flag of one bit adds
flag_part : (n k : ℕ) (flag : LinkExtentMask) (rest : List LinkExtentMask) → link_extent_mask_number flag ≡ 2 ^ k
    → ext_sum (flags_set n (flag ∷ rest)) ≡ bit_at n k * 2 ^ k + ext_sum (flags_set n rest)
unfolding flags_set
flag_part n k flag rest number =
    let part : bit_and n (link_extent_mask_number flag) ≡ bit_at n k * 2 ^ k = ap (bit_and n) number ∙ and_pow n k in
    sum_if flag (flags_set n rest) (bit_and n (link_extent_mask_number flag)) _ refl
    (λ differs. part ∙ no_bit (bit_at n k) (2 ^ k) (bit_at-lt n k) (λ e. differs (part ∙ e ∙ sym number)))
    ∙ ap (λ x. x + ext_sum (flags_set n rest)) part

rest_if : (rest : ℕ) (none : Bool) → (rest == 0) ≡ none → ext_sum (if none then [] else Other rest ∷ []) ≡ rest
unfolding link_extent_mask_number
rest_if rest true is = sym (eqb-true rest 0 is)
rest_if rest false is = omega arith

-- the lowest bit and the others
halves : (n k : ℕ) → n / 2 ^ k ≡ bit_at n k + n / 2 ^ (k + 1) * 2
halves n k =
    let next : n / 2 ^ (k + 1) ≡ n / 2 ^ k / 2 =
    ap (λ p. n / p) (pow-add 2 k 1) ∙ sym (div-div-eq-div-mul n (2 ^ k) 2) in
    omega (arith, next)

pub sums_back : SumsBack
unfolding ext_list flags_set link_extent_mask_number
sums_back n small =
    let listed : List LinkExtentMask =
    Vf ∷ Brvlan ∷ BrvlanCompressed ∷ SkipStats ∷ Mrp ∷ CfmConfig ∷ CfmStatus ∷ Mst ∷ [] in
    let whole : ext_sum (ext_list n) ≡ ext_sum (flags_set n listed) + ext_sum (other_of (bit_and n 0xffff_ff00)) =
    sum-append (flags_set n listed) (other_of (bit_and n 0xffff_ff00)) in
    let none : ext_sum (flags_set n []) ≡ 0 = refl in
    let high : bit_and n 0xffff_ff00 ≡ n / 2 ^ 8 * 2 ^ 8 = and_high_mask 32 8 (omega arith) n small in
    let rest : ext_sum (other_of (bit_and n 0xffff_ff00)) ≡ bit_and n 0xffff_ff00 =
    rest_if (bit_and n 0xffff_ff00) _ refl in
    omega (
      arith,
      high,
      rest,
      whole,
      none,
      flag_part n 0 Vf (Brvlan ∷ BrvlanCompressed ∷ SkipStats ∷ Mrp ∷ CfmConfig ∷ CfmStatus ∷ Mst ∷ []) refl,
      flag_part n 1 Brvlan (BrvlanCompressed ∷ SkipStats ∷ Mrp ∷ CfmConfig ∷ CfmStatus ∷ Mst ∷ []) refl,
      flag_part n 2 BrvlanCompressed (SkipStats ∷ Mrp ∷ CfmConfig ∷ CfmStatus ∷ Mst ∷ []) refl,
      flag_part n 3 SkipStats (Mrp ∷ CfmConfig ∷ CfmStatus ∷ Mst ∷ []) refl,
      flag_part n 4 Mrp (CfmConfig ∷ CfmStatus ∷ Mst ∷ []) refl,
      flag_part n 5 CfmConfig (CfmStatus ∷ Mst ∷ []) refl,
      flag_part n 6 CfmStatus (Mst ∷ []) refl,
      flag_part n 7 Mst ([]) refl,
      halves n 0,
      halves n 1,
      halves n 2,
      halves n 3,
      halves n 4,
      halves n 5,
      halves n 6,
      halves n 7,
    )
