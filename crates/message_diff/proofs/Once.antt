-- A list of which none is twice in a row.
use Rattle.std.proofs.Common.{◌≡◌, ◌-◌, ℕ, Bool, true, false, List, [], ◌∷◌, ◌++◌, length, arith}
use Rattle.std.proofs.Common.{refl, sym, ap, ◌∙◌}
use Rattle.std.specs.Prelude.{Some, cond}
use Rattle.std.specs.List.{dedup, dedup_from, slice_get}

module _ {A : Type 0} (same : A → A → Bool) where
  front : (k : A) (xs : List A) → (rest : List A) × (dedup_from same k xs ≡ k ∷ rest)
  front k [] = ([], refl)
  front k (x ∷ xs) =
      elim (same x k) as (λ b. (rest : List A) × (cond b (dedup_from same k xs) (k ∷ dedup_from same x xs) ≡ k ∷ rest))
      [ true ↦ front k xs | false ↦ (dedup_from same x xs, refl) ]

  -- what is left out before is left out after
  from_front : (k x : A) (xs ys : List A) → same x k ≡ false
      → dedup_from same k (dedup_from same x xs ++ ys) ≡ k ∷ dedup same (dedup_from same x xs ++ ys)
  from_front k x xs ys other =
      let f = front x xs in
      ap (λ (t : List A). dedup_from same k (t ++ ys)) f.1
      ∙ ap (λ (b : Bool). cond b (dedup_from same k (f.0 ++ ys)) (k ∷ dedup_from same x (f.0 ++ ys))) other
      ∙ ap (λ (t : List A). k ∷ dedup same (t ++ ys)) (sym f.1)

  twice_from : (k : A) (xs ys : List A) → dedup same (dedup_from same k xs ++ ys) ≡ dedup_from same k (xs ++ ys)
  twice_from k [] ys = refl
  twice_from k (x ∷ xs) ys =
      let P : Bool → Type 0 =
      λ b. dedup same (cond b (dedup_from same k xs) (k ∷ dedup_from same x xs) ++ ys)
      ≡ cond b (dedup_from same k (xs ++ ys)) (k ∷ dedup_from same x (xs ++ ys)) in
      let at : (b : Bool) → same x k ≡ b → P b =
      λ b. elim b as (λ v. same x k ≡ v → P v) [
        | true ↦ λ _. twice_from k xs ys
        | false ↦ λ other. from_front k x xs ys other ∙ ap (λ (t : List A). k ∷ t) (twice_from x xs ys)
      ] in
      at (same x k) refl

  pub twice : (xs ys : List A) → dedup same (dedup same xs ++ ys) ≡ dedup same (xs ++ ys)
  twice [] ys = refl
  twice (x ∷ xs) ys = twice_from x xs ys

  -- the last one that is kept
  abbrev kept : A → List A → A
  kept k [] = k
  kept k (x ∷ xs) = cond (same x k) (kept k xs) (kept x xs)

  -- one more
  inside : (b : Bool) (k : A) (t u : List A) → k ∷ cond b t u ≡ cond b (k ∷ t) (k ∷ u)
  inside true k t u = refl
  inside false k t u = refl

  pushed : (k m : A) (xs : List A) → dedup_from same k (xs ++ m ∷ [])
      ≡ cond (same m (kept k xs)) (dedup_from same k xs) (dedup_from same k xs ++ m ∷ [])
  pushed k m [] = refl
  pushed k m (x ∷ xs) =
      elim (same x k) as (λ b. cond b (dedup_from same k (xs ++ m ∷ [])) (k ∷ dedup_from same x (xs ++ m ∷ []))
      ≡ cond (same m (cond b (kept k xs) (kept x xs))) (cond b (dedup_from same k xs) (k ∷ dedup_from same x xs))
      (cond b (dedup_from same k xs) (k ∷ dedup_from same x xs) ++ m ∷ [])) [
        | true ↦ pushed k m xs
        | false ↦ ap (λ (t : List A). k ∷ t) (pushed x m xs)
            ∙ inside (same m (kept x xs)) k (dedup_from same x xs) (dedup_from same x xs ++ m ∷ [])
      ]

  -- the last of a list
  abbrev end : A → List A → A
  end k [] = k
  end k (x ∷ xs) = end x xs

  end_kept : (d k : A) (xs : List A) → end d (dedup_from same k xs) ≡ kept k xs
  end_kept d k [] = refl
  end_kept d k (x ∷ xs) =
      elim (same x k) as (λ b. end d (cond b (dedup_from same k xs) (k ∷ dedup_from same x xs))
      ≡ cond b (kept k xs) (kept x xs)) [ true ↦ end_kept d k xs | false ↦ end_kept k x xs ]

  at_end : (k : A) (xs : List A) → slice_get (k ∷ xs) (length xs) ≡ Some (end k xs)
  at_end k [] = refl
  at_end k (x ∷ xs) = at_end x xs

  last_is : (k : A) (xs : List A) (l : A) → dedup same (k ∷ xs) ≡ k ∷ xs
      → slice_get (k ∷ xs) (length (k ∷ xs) - 1) ≡ Some l → kept k xs ≡ l
  last_is k xs l one is =
      let size : length (k ∷ xs) - 1 ≡ length xs = omega arith in
      let e : Some (end k xs) ≡ Some l =
      sym (at_end k xs) ∙ ap (λ (n : ℕ). slice_get (k ∷ xs) n) (sym size) ∙ is in
      let f : end k xs ≡ l = cc in
      sym (end_kept k k xs) ∙ ap (λ (t : List A). end k t) one ∙ f

  -- a list that has none twice in a row has none with one more at its end, unless that is as its last one
  pub dedup_same : (xs : List A) (l m : A) → slice_get xs (length xs - 1) ≡ Some l → same m l ≡ true
      → dedup same xs ≡ xs → xs ≡ dedup same (xs ++ m ∷ [])
  dedup_same [] l m is as_last one = absurd cc
  dedup_same (k ∷ xs) l m is as_last one =
      let e : same m (kept k xs) ≡ true = ap (same m) (last_is k xs l one is) ∙ as_last in
      sym (pushed k m xs
      ∙ ap (λ (b : Bool). cond b (dedup_from same k xs) (dedup_from same k xs ++ m ∷ [])) e ∙ one)

  pub dedup_more : (xs : List A) (m : A) → ((l : A) → slice_get xs (length xs - 1) ≡ Some l → same m l ≡ false)
      → dedup same xs ≡ xs → xs ++ m ∷ [] ≡ dedup same (xs ++ m ∷ [])
  dedup_more [] m other one = refl
  dedup_more (k ∷ xs) m other one =
      let size : length (k ∷ xs) - 1 ≡ length xs = omega arith in
      let here : slice_get (k ∷ xs) (length (k ∷ xs) - 1) ≡ Some (end k xs) =
      ap (λ (n : ℕ). slice_get (k ∷ xs) n) size ∙ at_end k xs in
      let e : same m (kept k xs) ≡ false = ap (same m) (last_is k xs (end k xs) one here) ∙ other (end k xs) here in
      sym (pushed k m xs
      ∙ ap (λ (b : Bool). cond b (dedup_from same k xs) (dedup_from same k xs ++ m ∷ [])) e
      ∙ ap (λ (t : List A). t ++ m ∷ []) one)
