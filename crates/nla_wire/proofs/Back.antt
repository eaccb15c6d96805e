-- Canonical encoding begins with its frame, and lists of values are read back from theirs.
use Rattle.std.proofs.Common.{◌≡◌, ℕ, ◌<◌, eq-eqb, List, [], ◌∷◌, ◌++◌, length, map, filter, replicate, Bool, cond}
use Rattle.std.proofs.Common.{true, false, refl, sym, ap, subst, inl, le_of_eq, arith}
use Rattle.std.proofs.lemmas.List.{length-replicate}
use Rattle.std.specs.List.{AllByRecursion}
use Rattle.nla_wire.specs.Frames.{Frame, number, IsBytes, IsFrame, missing, Begins, Frames}
use Rattle.nla_wire.specs.Grammar.{Grammar, Every, list, is_one, picked}
use Rattle.nla_wire.specs.Canon.{canon, canons, IsWritable}
use Rattle.nla_wire.proofs.Steps.{IsBytes-begins, begins_framed}

-- ** encodings of frames

pub canon_begins : (f : Frame) (rest : List ℕ) → IsWritable f → Begins (canon f ++ rest) f rest
canon_begins f rest h = record {
  kind = h.kind;
  size = h.size;
  padding = replicate (missing (length f.payload)) 0;
  parts = refl;
  padded = le_of_eq (length-replicate (missing (length f.payload)) 0);
  full = inl (length-replicate (missing (length f.payload)) 0);
}

pub canons_frames : {V : Type 0} (frame : V → Frame) (vs : List V) → AllByRecursion (λ v. IsWritable (frame v)) vs
    → Frames (canons frame vs) (map frame vs)
canons_frames frame [] h = refl
canons_frames frame (v ∷ vs) h =
    (canons frame vs, canon_begins (frame v) (canons frame vs) h.0, canons_frames frame vs h.1)

-- the frames of bytes are frames of bytes
pub frames_framed : (b : List ℕ) (fs : List Frame) → IsBytes b → Frames b fs → AllByRecursion IsFrame fs
frames_framed b [] small h = tt
frames_framed b (f ∷ fs) small h =
    (begins_framed b f h.0 h.1 small, frames_framed h.0 fs (IsBytes-begins b f h.0 h.1 small).1 h.2)

-- ** what is kept by a filter

filter_here : {A : Type 0} (P : A → Type 0) (test : A → Bool) (x : A) (xs : List A) (t : Bool) → P x
    → AllByRecursion P (filter test xs)
    → AllByRecursion P (cond t (x ∷ filter test xs) (filter test xs))
filter_here P test x xs true h k = (h, k)
filter_here P test x xs false h k = k

pub all_filtered : {A : Type 0} (P : A → Type 0) (test : A → Bool) (xs : List A) → AllByRecursion P xs
    → AllByRecursion P (filter test xs)
all_filtered P test [] h = tt
all_filtered P test (x ∷ xs) h = filter_here P test x xs (test x) h.0 (all_filtered P test xs h.1)

-- frames of number 1 are all kept
pub ones_kept : {V : Type 0} (frame : V → Frame) → ((v : V) → number (frame v) ≡ 1) → (vs : List V)
    → filter is_one (map frame vs) ≡ map frame vs
ones_kept frame ones [] = refl
ones_kept frame ones (v ∷ vs) = rw (eq-eqb _ _ (ones v)) (ap (λ fs. frame v ∷ fs) (ones_kept frame ones vs))

-- ** lists read back

module _ {V : Type 0} (place : Grammar Frame V) (frame : V → Frame) (Fits : V → Type 0)
    (writable : (f : Frame) (v : V) → IsFrame f → place.means f v → Fits v → IsWritable (frame v)) where
  pub every_writable : (fs : List Frame) (vs : List V) → AllByRecursion IsFrame fs → Every place.means fs vs
      → AllByRecursion Fits vs → AllByRecursion (λ v. IsWritable (frame v)) vs
  every_writable [] [] framed h fits = tt
  every_writable [] (v ∷ vs) framed h fits = absurd h
  every_writable (f ∷ fs) [] framed h fits = absurd h
  every_writable (f ∷ fs) (v ∷ vs) framed h fits =
      (writable f v framed.0 h.0 fits.0, every_writable fs vs framed.1 h.1 fits.1)

module _ {V : Type 0} (place : Grammar Frame V) (frame : V → Frame) (Fits Good : V → Type 0)
    (writable : (f : Frame) (v : V) → IsFrame f → place.means f v → Fits v → IsWritable (frame v))
    (back : (f : Frame) (v : V) → IsFrame f → place.means f v → Fits v → Good v → place.means (frame v) v) where
  every_back : (fs : List Frame) (vs : List V) → AllByRecursion IsFrame fs → Every place.means fs vs
      → AllByRecursion Fits vs → AllByRecursion Good vs
      → Every place.means (map frame vs) vs
  every_back [] [] framed h fits good = tt
  every_back [] (v ∷ vs) framed h fits good = absurd h
  every_back (f ∷ fs) [] framed h fits good = absurd h
  every_back (f ∷ fs) (v ∷ vs) framed h fits good =
      (back f v framed.0 h.0 fits.0 good.0, every_back fs vs framed.1 h.1 fits.1 good.1)

  pub list_back : (p : List ℕ) (vs : List V) → IsBytes p → (list place).means p vs → AllByRecursion Fits vs
      → AllByRecursion Good vs
      → (list place).means (canons frame vs) vs
  list_back p vs small h fits good =
      let framed = frames_framed p h.0 small h.1 in (
        map frame vs,
        canons_frames frame vs (every_writable place frame Fits writable h.0 vs framed h.2 fits),
        every_back h.0 vs framed h.2 fits good,
      )

  pub picked_back : ((v : V) → number (frame v) ≡ 1) → (p : List ℕ) (vs : List V) → IsBytes p
      → (picked place).means p vs
      → AllByRecursion Fits vs → AllByRecursion Good vs → (picked place).means (canons frame vs) vs
  picked_back ones p vs small h fits good =
      let framed = all_filtered IsFrame is_one h.0 (frames_framed p h.0 small h.1) in (
        map frame vs,
        canons_frames frame vs (every_writable place frame Fits writable (filter is_one h.0) vs framed h.2 fits),
        subst (λ fs. Every place.means fs vs) (sym (ones_kept frame ones vs))
            (every_back (filter is_one h.0) vs framed h.2 fits good),
      )

-- ** encodings that aren't empty

pub canons_some : {V : Type 0} (frame : V → Frame) (vs : List V) → 0 < length vs → 0 < length (canons frame vs)
canons_some frame [] some = absurd (omega arith)
canons_some frame (v ∷ vs) some = omega arith

-- a list read from some bytes has a member
pub list_some : {V : Type 0} (place : Grammar Frame V) (p : List ℕ) (vs : List V) → 0 < length p
    → (list place).means p vs → 0 < length vs
list_some place p [] some h = absurd (none h.0 h.1 h.2)
  where
    none : (fs : List Frame) → Frames p fs → Every place.means fs [] → ⊥
    none [] e k = omega (arith, ap length e)
    none (f ∷ fs) e k = k
list_some place p (v ∷ vs) some h = omega arith
