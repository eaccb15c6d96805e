-- Values of a list up to a place: what fits, and the encodings written so far.
use Rattle.std.proofs.Common.{◌≡◌, ℕ, suc, zero, ◌+◌, ◌<◌, ◌≤◌, List, [], ◌∷◌, ◌++◌, length, take, drop, get_or, sym}
use Rattle.std.proofs.Common.{ap, ◌∙◌, subst, arith, add-one, append_assoc, length-append, drop-cons, take-take}
use Rattle.std.specs.List.{AllByRecursion}
use Rattle.std.proofs.Math.Seq.{take-suc}
use Rattle.std.proofs.lemmas.List.{length-take-le, take-append-drop}
use Rattle.std.proofs.lemmas.List.Concat.{flat_map-append}
use Rattle.std.proofs.lemmas.List.Folds.{length-flat_map-take}
use Rattle.nla_wire.specs.Canon.{canon, canons, Filled}
use Rattle.nla_wire.specs.Frames.{Frame}
use Rattle.nla_wire.proofs.Placing.{take_front, drop_front}

module _ {A : Type 0} (P : A → Type 0) where
  pub all_at : (xs : List A) (i : ℕ) (d : A) → i < length xs → AllByRecursion P xs → P (get_or xs i d)
  all_at [] i d h all = absurd (omega arith)
  all_at (x ∷ xs) zero d h all = all.0
  all_at (x ∷ xs) (suc i) d h all = all_at xs i d (omega arith) all.1

  pub all_join : (xs ys : List A) → AllByRecursion P xs → AllByRecursion P ys → AllByRecursion P (xs ++ ys)
  all_join [] ys h k = k
  all_join (x ∷ xs) ys h k = (h.0, all_join xs ys h.1 k)

  pub all_more : (xs : List A) (i : ℕ) (d : A) → i < length xs → AllByRecursion P (take i xs) → P (get_or xs i d)
      → AllByRecursion P (take (i + 1) xs)
  all_more xs i d h all one =
      subst (AllByRecursion P) (sym (ap (λ n. take n xs) (add-one i) ∙ take-suc xs i d h))
      (all_join (take i xs) (get_or xs i d ∷ []) all (one, tt))

module _ {A : Type 0} (frame : A → Frame) where
  -- one more encoding in front of those that were written
  pub canons_front : (xs : List A) (i n : ℕ) (d : A) → i < length xs → n ≡ i + 1
      → canons frame (drop i xs) ≡ canon (frame (get_or xs i d)) ++ canons frame (drop n xs)
  canons_front xs i n d h e =
      ap (canons frame) (drop-cons xs i d h ∙ ap (λ k. get_or xs i d ∷ drop k xs) (sym (add-one i) ∙ sym e))

  pub canons_within : (xs : List A) (i : ℕ) (d : A) → i < length xs
      → length (canons frame (take i xs)) + length (canon (frame (get_or xs i d))) ≤ length (canons frame xs)
  canons_within xs i d h = length-flat_map-take (λ x. canon (frame x)) xs i d h

  -- one encoding, and those after it, are within the encodings of them all
  pub canons_after : (xs : List A) (i n : ℕ) (d : A) → i < length xs → n ≡ i + 1
      → length (canon (frame (get_or xs i d))) + length (canons frame (drop n xs)) ≤ length (canons frame xs)
  canons_after xs i n d h e =
      let parts : canons frame xs ≡ canons frame (take i xs) ++ canons frame (drop i xs) =
      ap (canons frame) (sym (take-append-drop i xs))
      ∙ flat_map-append (λ x. canon (frame x)) (take i xs) (drop i xs) in
      let size : length (canons frame xs) ≡ length (canons frame (take i xs)) + length (canons frame (drop i xs)) =
      ap (λ (t : List ℕ). length t) parts ∙ length-append (canons frame (take i xs)) (canons frame (drop i xs)) in
      let front : length (canons frame (drop i xs))
      ≡ length (canon (frame (get_or xs i d))) + length (canons frame (drop n xs)) =
      ap (λ (t : List ℕ). length t) (canons_front xs i n d h e)
      ∙ length-append (canon (frame (get_or xs i d))) (canons frame (drop n xs)) in
      omega (arith, size, front)

-- an encoding written in front of what stands at the end
pub Filled-more : (old mid new part encoding more : List ℕ) (at start n : ℕ)
    → Filled old mid encoding start
    → Filled (take start mid) part more at
    → n ≡ start
    → new ≡ part ++ drop n mid
    → Filled old new (more ++ encoding) at
Filled-more old mid new part encoding more at start n h k n_is new_is =
    let fits : start ≤ length old = omega (arith, h.0) in
    let size : length (take start old) ≡ start = length-take-le start old fits in
    let front : take start mid ≡ take start old = ap (take start) h.1 ∙ take_front start old encoding fits in
    let after : drop start mid ≡ encoding = ap (drop start) h.1 ∙ drop_front start old encoding fits in
    let le : at ≤ start = omega (arith, k.0, ap (λ (t : List ℕ). length t) front, size) in
    let kept : take at (take start mid) ≡ take at old = ap (take at) front ∙ take-take at start old le in
    let begun : part ≡ take at old ++ more = k.1 ∙ ap (λ (t : List ℕ). t ++ more) kept in (
      omega (arith, h.0, k.0, ap (λ (t : List ℕ). length t) front, size, length-append more encoding),
      new_is ∙ ap (λ i. part ++ drop i mid) n_is ∙ ap (λ (t : List ℕ). part ++ t) after
          ∙ ap (λ (t : List ℕ). t ++ encoding) begun ∙ append_assoc (take at old) more encoding,
    )

-- the encodings up to a member, and that member's, are within the encodings of them all
pub canons_up_to : {A : Type 0} (frame : A → Frame) (xs : List A) (i : ℕ) (x : A) → i < length xs → x ≡ get_or xs i x
    → length (canons frame (take i xs)) + length (canon (frame x)) ≤ length (canons frame xs)
canons_up_to frame xs i x h is =
    let at_place : length (canon (frame x)) ≡ length (canon (frame (get_or xs i x))) =
    ap (λ y. length (canon (frame y))) is in
    omega (arith, canons_within frame xs i x h, at_place)

-- a member's encoding, and those after it, are within the encodings of them all
pub canons_from : {A : Type 0} (frame : A → Frame) (xs : List A) (i n : ℕ) (x : A) → i < length xs → n ≡ i + 1
    → x ≡ get_or xs i x
    → length (canon (frame x)) + length (canons frame (drop n xs)) ≤ length (canons frame xs)
canons_from frame xs i n x h e is =
    let at_place : length (canon (frame x)) ≡ length (canon (frame (get_or xs i x))) =
    ap (λ y. length (canon (frame y))) is in
    omega (arith, canons_after frame xs i n x h e, at_place)
