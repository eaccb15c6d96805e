-- Families in decimal digits.
use Rattle.std.proofs.Common.{◌≡◌, ◌<◌, ◌^◌, ℕ, Bool, true, false, List, [], ◌∷◌, length, refl, sym, ap, ◌∙◌, arith}
use Rattle.std.specs.Prelude.{None, Some, Result, Ok, Err, ◌&&◌, cond, nat_lt}
use Rattle.std.specs.Char.{digit_value}
use Rattle.std.specs.List.{list_all}
use Rattle.std.specs.Result.{OkIff, result_ok}
use Rattle.std.specs.Str.Parse.{AllDigits, IsNumeral, ParsesUnsigned, digits_value, without_leading_plus}
use Rattle.std.proofs.lemmas.Bool.Decides.{nat_tests}
use Rattle.message_diff.specs.Said.{family_of, family_of_digits, is_numeral}

below : (a b : ℕ) → a < b → nat_lt a b ≡ true
below a b h = grind (arith, nat_tests)

below_of : (a b : ℕ) → nat_lt a b ≡ true → a < b
below_of a b h = grind (arith, nat_tests)

both : (a b : Bool) → a ≡ true → b ≡ true → (a && b) ≡ true
both true b h k = k
both false b h k = h

both_of : (a b : Bool) → (a && b) ≡ true → (a ≡ true) × (b ≡ true)
both_of true b h = (refl, h)
both_of false b h = absurd cc

all_pass : (ds : List ℕ) → AllDigits 10 ds → list_all (λ digit. nat_lt (digit_value digit) 10) ds ≡ true
all_pass [] h = refl
all_pass (d ∷ ds) h = both _ _ (below (digit_value d) 10 h.0) (all_pass ds h.1)

all_digits : (ds : List ℕ) → list_all (λ digit. nat_lt (digit_value digit) 10) ds ≡ true → AllDigits 10 ds
all_digits [] h = tt
all_digits (d ∷ ds) h =
    let parts = both_of (nat_lt (digit_value d) 10) (list_all (λ digit. nat_lt (digit_value digit) 10) ds) h in
    (below_of (digit_value d) 10 parts.0, all_digits ds parts.1)

passes : (ds : List ℕ) → IsNumeral 10 ds → is_numeral ds ≡ true
passes ds h = both _ _ (below 0 (length ds) h.0) (all_pass ds h.1)

numeral : (ds : List ℕ) → is_numeral ds ≡ true → IsNumeral 10 ds
numeral ds h =
    let parts = both_of (nat_lt 0 (length ds)) (list_all (λ digit. nat_lt (digit_value digit) 10) ds) h in
    (below_of 0 (length ds) parts.0, all_digits ds parts.1)

none_of : (b : Bool) (n : ℕ) → (b ≡ true → ⊥) → None ≡ cond b (Some n) None
none_of true n h = absurd (h refl)
none_of false n h = refl

by_digits : {E : Type 0} (ds : List ℕ) (r : Result ℕ E)
    → OkIff r (IsNumeral 10 ds × (digits_value 10 ds < 2 ^ 8)) (digits_value 10 ds) → result_ok r ≡ family_of_digits ds
by_digits ds (Ok n) h =
    ap Some h.1
    ∙ ap (λ b. cond b (Some (digits_value 10 ds)) None)
    (sym (both _ _ (passes ds h.0.0) (below (digits_value 10 ds) 256 h.0.1)))
by_digits ds (Err e) h = none_of (is_numeral ds && nat_lt (digits_value 10 ds) 256) (digits_value 10 ds) (λ is.
    let parts = both_of (is_numeral ds) (nat_lt (digits_value 10 ds) 256) is in
    h (numeral ds parts.0, below_of (digits_value 10 ds) 256 parts.1))

-- what `parse` reads
pub family_read : {E : Type 0} (text : List ℕ) (r : Result ℕ E) → ParsesUnsigned 8 10 text r
    → result_ok r ≡ family_of text
unfolding family_of
family_read text r h = by_digits (without_leading_plus text) r h
