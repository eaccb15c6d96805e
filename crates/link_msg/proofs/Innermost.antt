-- The innermost fault of a tree of lists: there is at most one, and it is inside of the bytes.
use Rattle.std.proofs.Common.{◌≡◌, ℕ, ◌+◌, ◌≤◌, List, [], ◌∷◌, inl, inr, length, refl, sym, ap, subst}
use Rattle.std.proofs.Common.{◌∙◌, arith, Option, Some, None}
use Rattle.nla_wire.specs.Frames.{Frame, number, IsBytes, IsFrame}
use Rattle.nla_wire.specs.declared.error.Cause.{Cause}
use Rattle.link_msg.specs.Nested.{Inside, in_shape}
use Rattle.link_msg.specs.declared.shape.Shape.{Shape}
use Rattle.link_msg.specs.Nested.Inside.{Flat, Members}
use Rattle.link_msg.specs.FaultAt.{IsFirstFault, AllAccepted, LeadsTo, FaultIn, NoFaultIn}
use Rattle.link_msg.specs.FaultPath.{numbers_to, IsPathIn, Extends}
use Rattle.link_msg.specs.declared.fault_path.FaultPath.{FaultPath}
use Rattle.link_msg.proofs.FirstFaults.{first_once, accepted_none, fault_inside, frame_inside, refused_frame}

-- no frame is both accepted and refused, none is refused for two causes, and a list in a payload that is refused has
-- the cause of the payload
abbrev pub IsSound : Inside → Type 0
IsSound Flat = Unit {0}
IsSound (Members accepts refuses inside) =
    ((f : Frame) (c : Cause) → IsFrame f → accepts f → refuses f c → ⊥)
    × ((f : Frame) (c d : Cause) → IsFrame f → refuses f c → refuses f d → c ≡ d)
    × ((f : Frame) (c d : Cause) (at : ℕ) (numbers : List ℕ) → IsFrame f → refuses f c
    → FaultIn (inside f) f.payload d at numbers → c ≡ d)
    × ((f : Frame) → IsSound (inside f))

-- ** at most one

abbrev SameFault : Cause → Cause → ℕ → ℕ → List ℕ → List ℕ → Type 0
SameFault c d at there numbers others = (c ≡ d) × (at ≡ there) × (numbers ≡ others)

module _ (HasInside : Frame → Cause → ℕ → List ℕ → Type 0) (c d : Cause) (start : ℕ) where
  leads_once : (frame : Option Frame)
      → ((f : Frame) → frame ≡ Some f → (c d : Cause) (at there : ℕ) (numbers others : List ℕ)
      → HasInside f c at numbers → HasInside f d there others → SameFault c d at there numbers others)
      → (at there : ℕ) (numbers others : List ℕ) → LeadsTo HasInside c start frame at numbers
      → LeadsTo HasInside d start frame there others → (at ≡ there) × (numbers ≡ others)
  leads_once None once at there numbers others h k = (h.0 ∙ sym k.0, h.1 ∙ sym k.1)
  leads_once (Some f) once at there numbers others (inl h) (inl k) =
      let same = once f refl c d h.0 k.0 h.1 k.1 h.2 k.2 in (
        omega (arith, h.3, k.3, same.1),
        h.4 ∙ ap (λ (more : List ℕ). number f ∷ more) same.2 ∙ sym k.4,
      )
  leads_once (Some f) once at there numbers others (inl h) (inr k) = absurd (k.0 c h.0 h.1 h.2)
  leads_once (Some f) once at there numbers others (inr h) (inl k) = absurd (h.0 d k.0 k.1 k.2)
  leads_once (Some f) once at there numbers others (inr h) (inr k) = (h.1 ∙ sym k.1, h.2 ∙ sym k.2)

pub one_fault : (t : Inside) → IsSound t → (b : List ℕ) → IsBytes b → (c d : Cause) (at there : ℕ)
    (numbers others : List ℕ) → FaultIn t b c at numbers → FaultIn t b d there others
    → SameFault c d at there numbers others
one_fault Flat sound b bytes c d at there numbers others h k = absurd h
one_fault (Members accepts refuses inside) sound b bytes c d at there numbers others h k =
    let same = first_once accepts refuses sound.0 sound.1 b c d h.0 k.0 h.1 k.1 bytes h.2 k.2 in
    let second = subst (λ x. LeadsTo (λ f. FaultIn (inside f) f.payload) d h.0 x there others) (sym same.1)
    (subst (λ n. LeadsTo (λ f. FaultIn (inside f) f.payload) d n k.1 there others) (sym same.0) k.3) in
    let once = leads_once (λ f. FaultIn (inside f) f.payload) c d h.0 h.1
    (λ f is. one_fault (inside f) (sound.3 f) f.payload
    (refused_frame accepts refuses b c h.0 f bytes
    (subst (λ x. IsFirstFault accepts refuses b c h.0 x) is h.2)).bytes)
    at there numbers others h.3 second in
    (same.2, once.0, once.1)

-- ** inside of the bytes

leads_inside : (HasInside : Frame → Cause → ℕ → List ℕ → Type 0) (accepts : Frame → Type 0)
    (refuses : Frame → Cause → Type 0) (b : List ℕ) (c : Cause) (start : ℕ) (frame : Option Frame)
    → IsFirstFault accepts refuses b c start frame
    → ((f : Frame) (c : Cause) (at : ℕ) (numbers : List ℕ) → HasInside f c at numbers → at + 1 ≤ length f.payload)
    → (at : ℕ) (numbers : List ℕ) → LeadsTo HasInside c start frame at numbers → at + 1 ≤ length b
leads_inside HasInside accepts refuses b c start None first each at numbers h =
    omega (arith, h.0, fault_inside accepts refuses b c start None first)
leads_inside HasInside accepts refuses b c start (Some f) first each at numbers (inl h) =
    omega (arith, h.3, each f c h.0 h.1 h.2, frame_inside accepts refuses b c start f first)
leads_inside HasInside accepts refuses b c start (Some f) first each at numbers (inr h) =
    omega (arith, h.1, fault_inside accepts refuses b c start (Some f) first)

pub innermost_inside : (t : Inside) (b : List ℕ) (c : Cause) (at : ℕ) (numbers : List ℕ)
    → FaultIn t b c at numbers → at + 1 ≤ length b
innermost_inside Flat b c at numbers h = absurd h
innermost_inside (Members accepts refuses inside) b c at numbers h =
    leads_inside (λ f. FaultIn (inside f) f.payload) accepts refuses b c h.0 h.1 h.2
    (λ f d inner more deeper. innermost_inside (inside f) f.payload d inner more deeper) at numbers h.3

-- ** one list deeper

module _ (accepts : Frame → Type 0) (refuses : Frame → Cause → Type 0) (inside : Frame → Inside)
    (sound : IsSound (Members accepts refuses inside)) (b : List ℕ) (bytes : IsBytes b) where
  abbrev FirstAt : ℕ → Option Frame → Type 0
  FirstAt start frame = (c : Cause) × IsFirstFault accepts refuses b c start frame

  pub none_in : AllAccepted accepts b → NoFaultIn (Members accepts refuses inside) b
  none_in all c at numbers h =
      accepted_none accepts refuses sound.0 sound.1 b all.0 bytes all.1 all.2 c h.0 h.1 h.2

  module _ (start : ℕ) (most : ℕ) (p : FaultPath) where
    is_path : (c : Cause) → p.depth ≤ most → FaultIn (Members accepts refuses inside) b c p.offset (numbers_to p)
        → IsPathIn (Members accepts refuses inside) b most (Some p)
    is_path c deep fault = (
      deep,
      omega (arith, innermost_inside (Members accepts refuses inside) b c p.offset (numbers_to p) fault),
      (c, fault),
    )

    -- bytes that are no frame
    pub stray_in : (frame : Option Frame) → FirstAt start frame → frame ≡ None → p.offset ≡ start → p.depth ≡ 0
        → numbers_to p ≡ [] → IsPathIn (Members accepts refuses inside) b most (Some p)
    stray_in frame first is place depth none =
        let first_here = subst (λ x. FirstAt start x) is first in
        is_path first_here.0 (omega (arith, depth)) (start, None, first_here.1, (place, none))

  -- a frame that is refused
  module _ (start : ℕ) (most : ℕ) (p : FaultPath) (f : Frame) where
    in_frame : FirstAt start (Some f) → (q : Option FaultPath) → IsPathIn (inside f) f.payload most q
        → Extends start (number f) q p → IsPathIn (Members accepts refuses inside) b (most + 1) (Some p)
    in_frame (c, first) None none is =
        is_path start (most + 1) p c (omega (arith, is.0)) (start, Some f, first, inr (none, is.1, is.2))
    in_frame (c, first) (Some q) (deep, within, (d, deeper)) is =
        let one = refused_frame accepts refuses b c start f bytes first in
        let same = sound.2 f c d q.offset (numbers_to q) one first.alone.2 deeper in
        let here = subst (λ x. FaultIn (inside f) f.payload x q.offset (numbers_to q)) (sym same) deeper in
        is_path start (most + 1) p c (omega (arith, is.0, deep))
        (start, Some f, first, inl (q.offset, numbers_to q, here, is.1, is.2))

    pub frame_in : (frame : Option Frame) → FirstAt start frame → frame ≡ Some f → (q : Option FaultPath)
        → IsPathIn (inside f) f.payload most q → (n : ℕ) → n ≡ number f → Extends start n q p
        → IsPathIn (Members accepts refuses inside) b (most + 1) (Some p)
    frame_in frame first is q h n named extends =
        in_frame (subst (λ x. FirstAt start x) is first) q h (subst (λ m. Extends start m q p) named extends)

-- the list in a payload, by its shape
pub shape_path : (s t : Shape) (p : List ℕ) (k : ℕ) (r : Option FaultPath) → s ≡ t → k ≤ 3 → IsPathIn (in_shape t) p k r
    → IsPathIn (in_shape s) p 3 r
shape_path s t p k None is short h = subst (λ x. IsPathIn (in_shape x) p 3 None) (sym is) h
shape_path s t p k (Some q) is short h =
    subst (λ x. IsPathIn (in_shape x) p 3 (Some q)) (sym is) (omega (arith, h.0, short), h.1, h.2)
