-- Numbers written one after the other.
use Rattle.std.proofs.Common.{◌≡◌, ℕ, ◌+◌, ◌<◌, List, [], ◌∷◌, ◌++◌, sym, ap, ◌∙◌, length, get_or, take, drop, ◌*◌}
use Rattle.std.proofs.Common.{arith, add-one, min, replicate, ◌-◌}
use Rattle.std.specs.List.{flat_map}
use Rattle.std.proofs.Math.Nat.{min_comm}
use Rattle.std.proofs.Math.Seq.{take-suc}
use Rattle.std.proofs.lemmas.List.{append-nil, take_min, drop-replicate}
use Rattle.std.proofs.lemmas.List.Concat.{flat_map-append}

-- one more element
pub flat_map-take-more : {A B : Type 0} (f : A → List B) (xs : List A) (i : ℕ) (d : A) → i < length xs
    → flat_map f (take (i + 1) xs) ≡ flat_map f (take i xs) ++ f (get_or xs i d)
flat_map-take-more f xs i d h =
    ap (λ n. flat_map f (take n xs)) (add-one i) ∙ ap (flat_map f) (take-suc xs i d h)
    ∙ flat_map-append f (take i xs) (get_or xs i d ∷ [])
    ∙ ap (λ t. flat_map f (take i xs) ++ t) (append-nil (f (get_or xs i d)))

-- a turn of the loop that writes each element's k bytes
pub words_more : {A : Type 0} (f : A → List ℕ) (xs : List A) (i k : ℕ) (d : A) (old new : List ℕ)
    → i < length xs
    → take (k * i) old ≡ flat_map f (take i xs)
    → take (k * i + k) new ≡ take (k * i) old ++ f (get_or xs i d)
    → take (k * (i + 1)) new ≡ flat_map f (take (i + 1) xs)
words_more f xs i k d old new h was front =
    let more : k * (i + 1) ≡ k * i + k = omega arith in
    ap (λ n. take n new) more ∙ front ∙ ap (λ t. t ++ f (get_or xs i d)) was ∙ sym (flat_map-take-more f xs i d h)

-- so many zeros after the first `m` are overwritten
pub zeros_after : (n m : ℕ) (front bytes : List ℕ) → m ≡ min (length bytes) n → front ≡ take m bytes
    → front ++ drop m (replicate n 0) ≡ take n bytes ++ replicate (n - length bytes) 0
zeros_after n m front bytes m_is front_is =
    let first : front ≡ take n bytes = front_is ∙ ap (λ k. take k bytes) (m_is ∙ min_comm (length bytes) n)
    ∙ take_min n bytes in
    let left : n - m ≡ n - length bytes = omega arith in
    ap (λ t. t ++ drop m (replicate n 0)) first
    ∙ ap (λ t. take n bytes ++ t) (drop-replicate m n 0 ∙ ap (λ k. replicate k 0) left)
