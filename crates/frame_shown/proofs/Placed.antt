-- Rows that stand in the order of their numbers, with none left out.
use Rattle.std.proofs.Common.{◌≡◌, ℕ, zero, suc, ◌+◌, ◌<◌, ◌≤◌, ◌==◌, ◌&&◌, Bool, true, false, List, [], ◌∷◌}
use Rattle.std.proofs.Common.{length, map}
use Rattle.std.proofs.Common.{refl, ap, ◌∙◌, arith, get_or}
use Rattle.std.specs.Prelude.{Some, cond}
use Rattle.std.specs.List.{find}
use Rattle.std.proofs.lemmas.Bool.{eqb-true, ne_eqb}
use Rattle.frame_shown.specs.Tables.{are_from, no_row, row_by, row_found}
use Rattle.frame_shown.specs.declared.form.Form.{Form}
use Rattle.frame_shown.specs.declared.form.Way.TheVariants as Ways

parts : (a b : Bool) → a && b ≡ true → (a ≡ true) × (b ≡ true)
parts true true h = (refl, refl)
parts true false h = absurd cc
parts false b h = absurd cc

module _ {A : Type 0} (said : A → ℕ × (List ℕ × Form)) where
  -- the row at a place has the number of the place
  pub row_there : (first : ℕ) (xs : List A) (i : ℕ) (d : A) → are_from first (map said xs) ≡ true → i < length xs
      → row_by (map said xs) (first + i) ≡ ((said (get_or xs i d)).1.0, Ways.Own (said (get_or xs i d)).1.1)
  row_there first [] i d from lt = absurd (omega arith)
  row_there first (x ∷ xs) zero d from lt =
      let its = parts ((said x).0 == first) (are_from (suc first) (map said xs)) from in
      let none : first + 0 ≡ first = omega arith in
      ap (λ b. row_found (cond b (Some (said x)) (find (λ r. r.0 == first + 0) (map said xs))))
      (ap (λ k. (said x).0 == k) none ∙ its.0)
  row_there first (x ∷ xs) (suc i) d from lt =
      let its = parts ((said x).0 == first) (are_from (suc first) (map said xs)) from in
      let first_is : (said x).0 ≡ first = eqb-true _ _ its.0 in
      let other : ((said x).0 == first + suc i) ≡ false = ne_eqb _ _ (omega (arith, first_is)) in
      let moved : first + suc i ≡ suc first + i = omega arith in
      ap (λ b. row_found (cond b (Some (said x)) (find (λ r. r.0 == first + suc i) (map said xs)))) other
      ∙ ap (row_by (map said xs)) moved
      ∙ row_there (suc first) xs i d its.1 (omega (arith, lt))

  -- below the first number and behind the last one there is none
  pub none_below : (first : ℕ) (xs : List A) (n : ℕ) → are_from first (map said xs) ≡ true → n < first
      → row_by (map said xs) n ≡ no_row
  none_below first [] n from lt = refl
  none_below first (x ∷ xs) n from lt =
      let its = parts ((said x).0 == first) (are_from (suc first) (map said xs)) from in
      let first_is : (said x).0 ≡ first = eqb-true _ _ its.0 in
      let other : ((said x).0 == n) ≡ false = ne_eqb _ _ (omega (arith, first_is, lt)) in
      ap (λ b. row_found (cond b (Some (said x)) (find (λ r. r.0 == n) (map said xs)))) other
      ∙ none_below (suc first) xs n its.1 (omega (arith, lt))

  pub none_behind : (first : ℕ) (xs : List A) (n : ℕ) → are_from first (map said xs) ≡ true → first + length xs ≤ n
      → row_by (map said xs) n ≡ no_row
  none_behind first [] n from le = refl
  none_behind first (x ∷ xs) n from le =
      let its = parts ((said x).0 == first) (are_from (suc first) (map said xs)) from in
      let first_is : (said x).0 ≡ first = eqb-true _ _ its.0 in
      let other : ((said x).0 == n) ≡ false = ne_eqb _ _ (omega (arith, first_is, le)) in
      ap (λ b. row_found (cond b (Some (said x)) (find (λ r. r.0 == n) (map said xs)))) other
      ∙ none_behind (suc first) xs n its.1 (omega (arith, le))
