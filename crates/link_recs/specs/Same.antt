-- A derived `==` of a record of numbers, over the list of its fields.
use Rattle.std.specs.Prelude.{◌≡◌, Bool, true, List, [], ◌∷◌, ◌&&◌, length}
use Rattle.std.specs.Bool.{Decides}
use Rattle.std.proofs.Common.{refl, sym, ap, ◌∙◌, arith}
use Rattle.std.proofs.Math.Bool.{and-true}
use Rattle.std.proofs.lemmas.Slice.Eq.{slice_eq-Decides}
use lib.Pointwise.{pointwise}

-- each pair of fields is the same
abbrev pub each_same : {N : Type 0} → (N → N → Bool) → List N → List N → Bool
each_same same [] ys = true
each_same same (x ∷ xs) [] = true
each_same same (x ∷ []) (y ∷ ys) = same x y
each_same same (x ∷ x' ∷ xs) (y ∷ ys) = same x y && each_same same (x' ∷ xs) ys

each_same_is : {N : Type 0} (same : N → N → Bool) (xs ys : List N) → length xs ≡ length ys
    → each_same same xs ys ≡ pointwise same xs ys
each_same_is same [] [] h = refl
each_same_is same [] (y ∷ ys) h = absurd (omega arith)
each_same_is same (x ∷ xs) [] h = absurd (omega arith)
each_same_is same (x ∷ []) (y ∷ []) h = sym (and-true (same x y))
each_same_is same (x ∷ []) (y ∷ y' ∷ ys) h = absurd (omega arith)
each_same_is same (x ∷ x' ∷ xs) (y ∷ []) h = absurd (omega arith)
each_same_is same (x ∷ x' ∷ xs) (y ∷ y' ∷ ys) h =
    ap (λ b. same x y && b) (each_same_is same (x' ∷ xs) (y' ∷ ys) (omega arith))

-- the fields are the same exactly where the records are equal, which are made of them
pub decides_by : {V N : Type 0} (members : V → List N) (make : List N → V) (same : N → N → Bool)
    → ((x y : N) → Decides (same x y) (x ≡ y))
    → ((v : V) → make (members v) ≡ v)
    → (v w : V) → length (members v) ≡ length (members w)
    → Decides (each_same same (members v) (members w)) (v ≡ w)
decides_by members make same decides made v w h =
    let both : Decides (each_same same (members v) (members w)) (members v ≡ members w) =
    slice_eq-Decides decides (members v) (members w) (each_same same (members v) (members w))
    (each_same_is same (members v) (members w) h) in
    (λ e. sym (made v) ∙ ap make (both.0 e) ∙ made w, λ e. both.1 (ap members e))
