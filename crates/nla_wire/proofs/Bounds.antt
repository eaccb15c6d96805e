-- How long canonical encoding is, and how many values there are, against the bytes that were read.
use Rattle.std.proofs.Common.{◌≡◌, ℕ, ◌+◌, ◌*◌, ◌/◌, ◌%◌, ◌≤◌, Bool, true, false, cond, ◌⊎◌, inl, inr, List, [], ◌∷◌}
use Rattle.std.proofs.Common.{length, filter, replicate, refl, ap, ◌∙◌, le_trans, mul-le-mul_left, arith}
use Rattle.std.proofs.Common.{length-append}
use Rattle.std.proofs.lemmas.List.{length-replicate}
use Rattle.std.specs.List.{AllByRecursion}
use Rattle.nla_wire.specs.Frames.{Frame, missing, Begins, Frames}
use Rattle.nla_wire.specs.Grammar.{Grammar, Every, list, is_one, picked, members}
use Rattle.nla_wire.specs.Canon.{canon, canons, total}
use Rattle.nla_wire.proofs.Steps.{length-begins}

-- ** lengths of encodings

pub length-canon : (f : Frame) → length (canon f) ≡ 4 + length f.payload + missing (length f.payload)
length-canon f = omega (
  arith,
  length-append f.payload (replicate (missing (length f.payload)) 0),
  length-replicate {A = ℕ} (missing (length f.payload)) 0,
)

pub canon_whole : (f : Frame) → length (canon f) % 4 ≡ 0
canon_whole f = omega (arith, length-canon f)

pub canons_whole : {V : Type 0} (frame : V → Frame) (vs : List V) → length (canons frame vs) % 4 ≡ 0
canons_whole frame [] = refl
canons_whole frame (v ∷ vs) =
    rw (length-append (canon (frame v)) (canons frame vs)) (omega (arith, canon_whole (frame v), canons_whole frame vs))

-- the encoding of a list is as long as those of its members together
pub length-canons : {V : Type 0} (frame : V → Frame) (vs : List V)
    → length (canons frame vs) ≡ total (λ v. length (canon (frame v))) vs
length-canons frame [] = refl
length-canons frame (v ∷ vs) =
    length-append (canon (frame v)) (canons frame vs) ∙ ap (λ n. length (canon (frame v)) + n) (length-canons frame vs)

total_more : {V : Type 0} (weight : V → ℕ) (e : ℕ) (vs : List V)
    → total (λ v. weight v + e) vs ≡ total weight vs + e * length vs
total_more weight e [] = omega arith
total_more weight e (v ∷ vs) = omega (arith, total_more weight e vs)

-- ** frames within bytes

-- the room of a frame: its header counts one, and so does each whole four bytes of its payload
abbrev pub room : Frame → ℕ
room f = 1 + length f.payload / 4

frame_room : (b : List ℕ) (f : Frame) (rest : List ℕ) (h : Begins b f rest)
    → (length h.padding ≡ missing (length f.payload)) ⊎ (rest ≡ [])
    → 1 + length f.payload / 4 + length rest / 4 ≤ length b / 4
frame_room b f rest h (inl full) = omega (arith, length-begins b f rest h)
frame_room b f rest h (inr ended) = omega (arith, length-begins b f rest h, ap length ended)

pub frames_room : (b : List ℕ) (fs : List Frame) → Frames b fs → total room fs ≤ length b / 4
frames_room b [] h = omega arith
frames_room b (f ∷ fs) h = omega (arith, frame_room b f h.0 h.1 h.1.full, frames_room h.0 fs h.2)

total_here : {A : Type 0} (weight : A → ℕ) (test : A → Bool) (x : A) (xs : List A) (t : Bool)
    → total weight (filter test xs) ≤ total weight xs
    → total weight (cond t (x ∷ filter test xs) (filter test xs)) ≤ weight x + total weight xs
total_here weight test x xs true h = omega arith
total_here weight test x xs false h = omega arith

total_filtered : {A : Type 0} (weight : A → ℕ) (test : A → Bool) (xs : List A)
    → total weight (filter test xs) ≤ total weight xs
total_filtered weight test [] = omega arith
total_filtered weight test (x ∷ xs) = total_here weight test x xs (test x) (total_filtered weight test xs)

-- each payload is four bytes shorter than the bytes of all frames, or more
pub frames_shorter : (b : List ℕ) (fs : List Frame) (n : ℕ) → Frames b fs → length b ≤ n + 4
    → AllByRecursion (λ f. length f.payload ≤ n) fs
frames_shorter b [] n h short = tt
frames_shorter b (f ∷ fs) n h short =
    (omega (arith, length-begins b f h.0 h.1), frames_shorter h.0 fs n h.2 (omega (arith, length-begins b f h.0 h.1)))

-- ** sums over the values of a list

module _ {V : Type 0} (place : Grammar Frame V) (weight : V → ℕ) (k : ℕ)
    (bounded : (f : Frame) (v : V) → place.means f v → weight v ≤ k * (1 + length f.payload / 4)) where
  every_total : (fs : List Frame) (vs : List V) → Every place.means fs vs → total weight vs ≤ k * total room fs
  every_total [] [] h = omega arith
  every_total [] (v ∷ vs) h = absurd h
  every_total (f ∷ fs) [] h = absurd h
  every_total (f ∷ fs) (v ∷ vs) h = omega (arith, bounded f v h.0, every_total fs vs h.1)

  pub list_total : (p : List ℕ) (vs : List V) → (list place).means p vs → total weight vs ≤ k * (length p / 4)
  list_total p vs h = le_trans (every_total h.0 vs h.2) (mul-le-mul_left k (frames_room p h.0 h.1))

  pub picked_total : (p : List ℕ) (vs : List V) → (picked place).means p vs → total weight vs ≤ k * (length p / 4)
  picked_total p vs h =
      le_trans (every_total (filter is_one h.0) vs h.2)
      (mul-le-mul_left k (le_trans (total_filtered room is_one h.0) (frames_room p h.0 h.1)))

-- ** counts

module _ {V : Type 0} (place : Grammar Frame V) (count : V → ℕ)
    (counted : (f : Frame) (v : V) → place.means f v → count v ≤ 1 + length f.payload / 4) where
  counted_once : (f : Frame) (v : V) → place.means f v → count v ≤ 1 * (1 + length f.payload / 4)
  counted_once f v h = omega (arith, counted f v h)

  pub list_count : (p : List ℕ) (vs : List V) → (list place).means p vs → 4 * total count vs ≤ length p
  list_count p vs h = omega (arith, list_total place count 1 counted_once p vs h)

  pub picked_count : (p : List ℕ) (vs : List V) → (picked place).means p vs → 4 * total count vs ≤ length p
  picked_count p vs h = omega (arith, picked_total place count 1 counted_once p vs h)

-- ** lengths

module _ {V : Type 0} (place : Grammar Frame V) (frame : V → Frame) (k e : ℕ)
    (bounded : (f : Frame) (v : V) → place.means f v
    → length (canon (frame v)) + e ≤ k * (1 + length f.payload / 4)) where
  pub list_length : (p : List ℕ) (vs : List V) → (list place).means p vs
      → length (canons frame vs) + e * length vs ≤ k * (length p / 4)
  list_length p vs h =
      omega (
        arith,
        list_total place (λ v. length (canon (frame v)) + e) k bounded p vs h,
        total_more (λ v. length (canon (frame v))) e vs,
        length-canons frame vs,
      )

  pub picked_length : (p : List ℕ) (vs : List V) → (picked place).means p vs
      → length (canons frame vs) + e * length vs ≤ k * (length p / 4)
  picked_length p vs h =
      omega (
        arith,
        picked_total place (λ v. length (canon (frame v)) + e) k bounded p vs h,
        total_more (λ v. length (canon (frame v))) e vs,
        length-canons frame vs,
      )

  pub members_length : (picks : Bool) (p : List ℕ) (vs : List V) → (members picks place).means p vs
      → length (canons frame vs) + e * length vs ≤ k * (length p / 4)
  members_length false p vs h = list_length p vs h
  members_length true p vs h = picked_length p vs h
