-- What a canonical encoding that has a meaning says of each member.
use Rattle.std.proofs.Common.{List, [], ◌∷◌, map, subst}
use Rattle.std.specs.List.{AllByRecursion}
use Rattle.nla_wire.specs.Frames.{Frame}
use Rattle.nla_wire.specs.Grammar.{Grammar, Every, list}
use Rattle.nla_wire.specs.Canon.{canons, IsWritable}
use Rattle.nla_wire.proofs.Cuts.{frames_once}
use Rattle.nla_wire.proofs.Back.{canons_frames}

module _ {V : Type 0} (place : Grammar Frame V) (frame : V → Frame) where
  each_means : (vs : List V) → Every place.means (map frame vs) vs → AllByRecursion (λ v. place.means (frame v) v) vs
  each_means [] h = tt
  each_means (v ∷ vs) h = (h.0, each_means vs h.1)

  -- the frame of each member means it
  pub list_members : (vs : List V) → (list place).means (canons frame vs) vs
      → AllByRecursion (λ v. IsWritable (frame v)) vs
      → AllByRecursion (λ v. place.means (frame v) v) vs
  list_members vs h writable =
      each_means vs (subst (λ fs. Every place.means fs vs)
      (frames_once (canons frame vs) h.0 (map frame vs) h.1 (canons_frames frame vs writable)) h.2)
