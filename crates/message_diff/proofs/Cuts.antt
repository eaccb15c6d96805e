-- Lists of attributes cut into frames.
use Rattle.std.proofs.Common.{◌≡◌, ℕ, zero, suc, ◌+◌, ◌*◌, ◌<◌, ◌≤◌, Bool, true, false, List, [], ◌∷◌, ◌++◌}
use Rattle.std.proofs.Common.{length, take, drop, refl, sym, ap, ◌∙◌, arith}
use Rattle.std.proofs.lemmas.List.{length-drop, take-append-drop}
use Rattle.std.specs.Prelude.{◌/◌, cond, min, max, nat_lt, Some}
use Rattle.std.specs.Iterator.{MakesProgress, item_count}
use Rattle.std.specs.Int.{w16}
use Rattle.nla_wire.specs.Fields.{number_at}
use Rattle.std.specs.List.{concat}
use Rattle.message_diff.specs.Frames.{frame_len, frames_within, frames_in}

-- ** how long a frame is
cut_some : (b : Bool) (n m : ℕ) → 0 < n → 0 < cond b n (min (max m 4) n)
cut_some true n m h = h
cut_some false n m h = omega arith

pub frame_some : (list : List ℕ) → 0 < length list → 0 < frame_len list
unfolding frame_len
frame_some list h = cut_some (nat_lt (length list) 4) (length list) ((number_at w16 list 0 + 3) / 4 * 4) h

-- behind the first frame there are fewer bytes
rest_fewer : (x : ℕ) (list : List ℕ) (n : ℕ) → length (x ∷ list) ≤ suc n
    → length (drop (frame_len (x ∷ list)) (x ∷ list)) ≤ n
rest_fewer x list n h =
    let some : 0 < frame_len (x ∷ list) = frame_some (x ∷ list) (omega arith) in
    omega (arith, length-drop (frame_len (x ∷ list)) (x ∷ list))

-- ** the frames of a list
within_none : (n : ℕ) → frames_within n [] ≡ []
within_none zero = refl
within_none (suc n) = refl

-- any number of steps is enough that is no less than the bytes
within_same : (n m : ℕ) (list : List ℕ) → length list ≤ n → length list ≤ m
    → frames_within n list ≡ frames_within m list
within_same n m [] h k = within_none n ∙ sym (within_none m)
within_same zero m (x ∷ list) h k = absurd (omega arith)
within_same (suc n) zero (x ∷ list) h k = absurd (omega arith)
within_same (suc n) (suc m) (x ∷ list) h k =
    ap (λ (frames : List (List ℕ)). take (frame_len (x ∷ list)) (x ∷ list) ∷ frames)
    (within_same n m (drop (frame_len (x ∷ list)) (x ∷ list)) (rest_fewer x list n h) (rest_fewer x list m k))

pub frames_none : (list : List ℕ) → length list ≡ 0 → frames_in list ≡ []
unfolding frames_in
frames_none [] h = refl
frames_none (x ∷ list) h = absurd (omega arith)

pub frames_first : (list : List ℕ) → 0 < length list
    → frames_in list ≡ take (frame_len list) list ∷ frames_in (drop (frame_len list) list)
unfolding frames_in
frames_first [] h = absurd (omega arith)
frames_first (x ∷ list) h =
    let rest : List ℕ = drop (frame_len (x ∷ list)) (x ∷ list) in
    ap (λ (frames : List (List ℕ)). take (frame_len (x ∷ list)) (x ∷ list) ∷ frames)
    (within_same (length list) (length rest) rest (rest_fewer x list (length list) (omega arith)) (omega arith))

-- together they are the list
joined_within : (n : ℕ) (list : List ℕ) → length list ≤ n → concat (frames_within n list) ≡ list
joined_within zero [] h = refl
joined_within zero (x ∷ list) h = absurd (omega arith)
joined_within (suc n) [] h = refl
joined_within (suc n) (x ∷ list) h =
    let len : ℕ = frame_len (x ∷ list) in
    ap (λ (t : List ℕ). take len (x ∷ list) ++ t)
    (joined_within n (drop len (x ∷ list)) (rest_fewer x list n h))
    ∙ take-append-drop len (x ∷ list)

pub frames_joined : (list : List ℕ) → concat (frames_in list) ≡ list
unfolding frames_in
frames_joined list = joined_within (length list) list (omega arith)

-- a step leaves one frame fewer
pub progress : {A : Type 0} (old new : List (List ℕ)) (frame : List ℕ) (item : A) → old ≡ frame ∷ new
    → MakesProgress (λ (_ : List (List ℕ)). Unit {0}) (item_count (λ frames. frames)) old (Some item) new
progress old new frame item is = record {
  on = λ _. (tt, tt, omega (arith, ap length is));
  keeps = tt;
  rests = λ _. tt;
}
