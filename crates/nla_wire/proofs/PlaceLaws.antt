-- The laws of a place and of its lists, from all that is proved of the place.
use Rattle.std.proofs.Common.{◌≡◌, ℕ, ◌+◌, ◌*◌, ◌/◌, ◌<◌, ◌≤◌, List, [], ◌∷◌, length, arith, ap, subst, append-nil}
use Rattle.std.proofs.Common.{mul-le-mul_left}
use Rattle.std.specs.List.{AllByRecursion}
use Rattle.nla_wire.specs.Frames.{Frame, number, Frames, Begins}
use Rattle.nla_wire.specs.Grammar.{Grammar, list, picked}
use Rattle.nla_wire.specs.Canon.{canon, canons}
use Rattle.nla_wire.specs.PlaceLaws.{ReadsBack, ListReadsBack, ListsBounded}
use Rattle.nla_wire.proofs.Back.{canon_begins, picked_back}
use Rattle.nla_wire.proofs.Bounds.{picked_count, picked_length}
use Rattle.nla_wire.proofs.Lawful.{LawfulPlace, place_count, place_length, place_back, always}

-- nothing is asked of members
pub all_always : {V : Type 0} (vs : List V) → AllByRecursion always vs
all_always [] = tt
all_always (v ∷ vs) = (tt, all_always vs)

-- what holds a frame holds its header
frames_long : (p : List ℕ) (fs : List Frame) → Frames p fs → 0 < length p → 4 ≤ length p
frames_long p [] frames some = absurd (omega (arith, ap length frames))
frames_long p (f ∷ fs) frames some = omega (arith, ap length frames.1.parts)

-- an encoding with e bytes fewer for each member has e fewer where there is anything, also where no member is kept
e_fewer : {V : Type 0} (frame : V → Frame) (k e : ℕ) (p : List ℕ) (fs : List Frame) (vs : List V) → e ≤ k → Frames p fs
    → length (canons frame vs) + e * length vs ≤ k * (length p / 4)
    → 0 < length p → length (canons frame vs) + e ≤ k * (length p / 4)
e_fewer frame k e p fs [] small frames grown some =
    let quarter : 1 ≤ length p / 4 = omega (arith, frames_long p fs frames some) in
    omega (arith, mul-le-mul_left k quarter)
e_fewer frame k e p fs (v ∷ vs) small frames grown some = omega arith

module _ {V : Type 0} (g : Grammar Frame V) (frame : V → Frame) (Fits : V → Type 0) (count : V → ℕ) (k e n : ℕ)
    (h : LawfulPlace g frame Fits always count k e n) where
  pub place_reads_back : ReadsBack g.means frame Fits
  place_reads_back f v one means fits = (
    subst (λ b. Begins b (frame v) []) (append-nil (canon (frame v)))
        (canon_begins (frame v) [] (h.writable f v one means fits)),
    h.back f v one means fits tt,
  )

  pub list_reads_back : ListReadsBack (list g).means frame Fits
  list_reads_back p vs small means fits =
      place_back g frame Fits always count k e n h p vs small means fits.0 (all_always vs)

  pub lists_bounded : e ≤ k → ListsBounded k e (list g).means count frame
  lists_bounded small p vs means =
      let grown = place_length g frame Fits always count k e n h p vs means in
      record {
        counted = place_count g frame Fits always count k e n h p vs means;
        grown = grown;
        fewer = e_fewer frame k e p means.0 vs small means.1 grown;
      }

  -- of a list of which members with another number than 1 are dropped
  pub picked_reads_back : ((v : V) → number (frame v) ≡ 1) → ListReadsBack (picked g).means frame Fits
  picked_reads_back ones p vs small means fits =
      picked_back g frame Fits always h.writable h.back ones p vs small means fits.0 (all_always vs)

  pub picked_bounded : e ≤ k → ListsBounded k e (picked g).means count frame
  picked_bounded small p vs means =
      let grown = picked_length g frame k e h.bounded p vs means in
      record {
        counted = picked_count g count h.counted p vs means;
        grown = grown;
        fewer = e_fewer frame k e p means.0 vs small means.1 grown;
      }
