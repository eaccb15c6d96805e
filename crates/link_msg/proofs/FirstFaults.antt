-- A list has at most one first fault.
use Rattle.std.proofs.Common.{◌≡◌, ℕ, ◌+◌, ◌%◌, ◌≤◌, List, [], ◌∷◌, ◌++◌, ◌⊎◌, inl, inr, length, refl, sym, ap, subst}
use Rattle.std.proofs.Common.{◌∙◌, length-append, arith, Option, Some, None}
use Rattle.std.specs.List.{AllByRecursion}
use Rattle.nla_wire.specs.Frames.{Frame, IsBytes, IsFrame, missing, Begins, Frames, BadStart}
use Rattle.nla_wire.specs.Reading.Step.{Bad}
use Rattle.nla_wire.specs.declared.error.Cause.{Cause}
use Rattle.nla_wire.specs.declared.error.Cause.TheVariants.{TooShort, FrameShort, FrameOver, FrameUnder, EmptyList}
use Rattle.nla_wire.specs.declared.error.Cause.TheVariants.{WrongLength, NotUtf8, InvalidState, OutOfMemory}
use Rattle.nla_wire.proofs.Steps.{step_whole, bad_step, length-begins, IsBytes-begins, begins_framed, bytes_right}
use Rattle.nla_wire.proofs.Joined.{begins_once, begins_join}
use Rattle.link_msg.specs.FaultAt.{FaultsAlone, IsFirstFault}

-- ** bytes that are no frame

pub bad_some : (b : List ℕ) (c : Cause) → BadStart b c → 1 ≤ length b
bad_some b (FrameShort left) bad = omega (arith, bad.0)
bad_some b (FrameOver len left) bad = omega (arith, bad.0)
bad_some b (FrameUnder len) bad = omega (arith, bad.0)
bad_some b (TooShort got need) bad = absurd bad
bad_some b EmptyList bad = absurd bad
bad_some b (WrongLength got want) bad = absurd bad
bad_some b NotUtf8 bad = absurd bad
bad_some b InvalidState bad = absurd bad
bad_some b OutOfMemory bad = absurd bad

bad_cause : (c d : Cause) → Bad c ≡ Bad d → c ≡ d
bad_cause c d e = cc

bad_once : (b : List ℕ) (c d : Cause) → BadStart b c → BadStart b d → c ≡ d
bad_once b c d h k = bad_cause c d (sym (bad_step b c h) ∙ bad_step b d k)

bad_begins : (b : List ℕ) (c : Cause) (f : Frame) (rest : List ℕ) → BadStart b c → Begins b f rest → ⊥
bad_begins b c f rest h k = let clash = sym (bad_step b c h) ∙ step_whole b f rest k in absurd cc

-- after a frame a length that is a multiple of four is left
left_whole : (c : List ℕ) (f : Frame) (rest : List ℕ) (h : Begins c f rest) → length c % 4 ≡ 0
    → (length h.padding ≡ missing (length f.payload)) ⊎ (rest ≡ []) → length rest % 4 ≡ 0
left_whole c f rest h whole (inl full) = omega (arith, length-begins c f rest h, whole, full)
left_whole c f rest h whole (inr ended) = omega (arith, ap (λ (x : List ℕ). length x) ended)

module _ (accepts : Frame → Type 0) (refuses : Frame → Cause → Type 0) where
  -- ** the same fault, frame by frame

  -- n bytes of b are these frames, which are accepted; and what follows them has this fault by itself
  abbrev pub After : List ℕ → List Frame → Option Frame → Cause → ℕ → Type 0
  After b [] frame c n = FaultsAlone refuses b frame c × (n ≡ 0)
  After b (f ∷ fs) frame c n =
      (rest : List ℕ) × Begins b f rest × accepts f
      × (m : ℕ) × After rest fs frame c m × (n + length rest ≡ m + length b)

  joined : (b d : List ℕ) (fs : List Frame) (frame : Option Frame) (c : Cause) → length b % 4 ≡ 0 → Frames b fs
      → AllByRecursion accepts fs → FaultsAlone refuses d frame c → After (b ++ d) fs frame c (length b)
  joined b d [] frame c whole frames accepted fault = (
    subst (λ x. FaultsAlone refuses (x ++ d) frame c) (sym frames) fault,
    ap (λ (x : List ℕ). length x) frames,
  )
  joined b d (f ∷ fs) frame c whole frames accepted fault = (
    frames.0 ++ d,
    begins_join b d f frames.0 whole frames.1,
    accepted.0,
    length frames.0,
    joined frames.0 d fs frame c (left_whole b f frames.0 frames.1 whole frames.1.full) frames.2 accepted.1 fault,
    omega (arith, length-append b d, length-append frames.0 d),
  )

  pub by_frames : (b : List ℕ) (c : Cause) (at : ℕ) (frame : Option Frame)
      (h : IsFirstFault accepts refuses b c at frame) → After b h.frames frame c at
  by_frames b c at frame h =
      let whole : length h.before % 4 ≡ 0 = omega (arith, h.at_end, h.aligned) in
      let parts = joined h.before h.later h.frames frame c whole h.spelt h.accepted h.alone in
      subst (λ n. After b h.frames frame c n) (sym h.at_end)
      (subst (λ x. After x h.frames frame c (length h.before)) (sym h.parts) parts)

  -- ** what is at fault stands inside of the bytes

  alone_some : (b : List ℕ) (frame : Option Frame) (c : Cause) → FaultsAlone refuses b frame c → 1 ≤ length b
  alone_some b None c bad = bad_some b c bad
  alone_some b (Some f) c fault = omega (arith, length-begins b f fault.0 fault.1)

  pub fault_inside : (b : List ℕ) (c : Cause) (at : ℕ) (frame : Option Frame)
      → IsFirstFault accepts refuses b c at frame → at + 1 ≤ length b
  fault_inside b c at frame h =
      omega (
        arith,
        ap (λ (x : List ℕ). length x) h.parts,
        length-append h.before h.later,
        h.at_end,
        alone_some h.later frame c h.alone,
      )

  pub frame_inside : (b : List ℕ) (c : Cause) (at : ℕ) (f : Frame)
      → IsFirstFault accepts refuses b c at (Some f) → at + 4 + length f.payload ≤ length b
  frame_inside b c at f h =
      omega (
        arith,
        ap (λ (x : List ℕ). length x) h.parts,
        length-append h.before h.later,
        h.at_end,
        length-begins h.later f h.alone.0 h.alone.1,
      )

  pub refused_frame : (b : List ℕ) (c : Cause) (at : ℕ) (f : Frame) → IsBytes b
      → IsFirstFault accepts refuses b c at (Some f) → IsFrame f
  refused_frame b c at f bytes h =
      begins_framed h.later f h.alone.0 h.alone.1
      (bytes_right h.before h.later (subst (λ x. IsBytes x) h.parts bytes))

  -- ** once

  module _ (disjoint : (f : Frame) (c : Cause) → IsFrame f → accepts f → refuses f c → ⊥)
      (one_cause : (f : Frame) (c d : Cause) → IsFrame f → refuses f c → refuses f d → c ≡ d) where
    alone_once : (b : List ℕ) (one other : Option Frame) (c d : Cause) → IsBytes b → FaultsAlone refuses b one c
        → FaultsAlone refuses b other d → (one ≡ other) × (c ≡ d)
    alone_once b None None c d bytes h k = (refl, bad_once b c d h k)
    alone_once b None (Some g) c d bytes h k = absurd (bad_begins b c g k.0 h k.1)
    alone_once b (Some f) None c d bytes h k = absurd (bad_begins b d f h.0 k h.1)
    alone_once b (Some f) (Some g) c d bytes h k =
        let same = begins_once b f g h.0 k.0 h.1 k.1 in (
          ap (λ x. Some x) same.0,
          one_cause f c d (begins_framed b f h.0 h.1 bytes) h.2 (subst (λ x. refuses x d) (sym same.0) k.2),
        )

    -- what is at fault is no frame that is accepted
    alone_refused : (b : List ℕ) (frame : Option Frame) (c : Cause) (f : Frame) (rest : List ℕ) → IsBytes b
        → FaultsAlone refuses b frame c → Begins b f rest → accepts f → ⊥
    alone_refused b None c f rest bytes h begins accepted = bad_begins b c f rest h begins
    alone_refused b (Some g) c f rest bytes h begins accepted =
        let same = begins_once b f g rest h.0 begins h.1 in
        disjoint f c (begins_framed b f rest begins bytes) accepted (subst (λ x. refuses x c) (sym same.0) h.2)

    after_once : (b : List ℕ) (fs gs : List Frame) (one other : Option Frame) (c d : Cause) (n m : ℕ) → IsBytes b
        → After b fs one c n → After b gs other d m → (n ≡ m) × (one ≡ other) × (c ≡ d)
    after_once b [] [] one other c d n m bytes h k =
        let same = alone_once b one other c d bytes h.0 k.0 in (h.1 ∙ sym k.1, same.0, same.1)
    after_once b [] (g ∷ gs) one other c d n m bytes h k =
        absurd (alone_refused b one c g k.0 bytes h.0 k.1 k.2)
    after_once b (f ∷ fs) [] one other c d n m bytes h k =
        absurd (alone_refused b other d f h.0 bytes k.0 h.1 h.2)
    after_once b (f ∷ fs) (g ∷ gs) one other c d n m bytes h k =
        let same = begins_once b f g h.0 k.0 h.1 k.1 in
        let rest = (IsBytes-begins b f h.0 h.1 bytes).1 in
        let later = after_once h.0 fs gs one other c d h.3 k.3 rest h.4
        (subst (λ x. After x gs other d k.3) (sym same.1) k.4) in
        (omega (arith, h.5, k.5, later.0, ap (λ (x : List ℕ). length x) same.1), later.1, later.2)

    pub first_once : (b : List ℕ) (c d : Cause) (at there : ℕ) (one other : Option Frame) → IsBytes b
        → IsFirstFault accepts refuses b c at one → IsFirstFault accepts refuses b d there other
        → (at ≡ there) × (one ≡ other) × (c ≡ d)
    first_once b c d at there one other bytes h k =
        after_once b h.frames k.frames one other c d at there bytes (by_frames b c at one h)
        (by_frames b d there other k)

    -- bytes of which all is accepted have no fault
    none_after : (b : List ℕ) (fs gs : List Frame) (frame : Option Frame) (c : Cause) (n : ℕ) → IsBytes b
        → Frames b fs → AllByRecursion accepts fs → After b gs frame c n → ⊥
    none_after b [] [] frame c n bytes frames accepted h =
        absurd (omega (arith, ap (λ (x : List ℕ). length x) frames, alone_some b frame c h.0))
    none_after b [] (g ∷ gs) frame c n bytes frames accepted h =
        absurd (omega (arith, ap (λ (x : List ℕ). length x) frames, length-begins b g h.0 h.1))
    none_after b (f ∷ fs) [] frame c n bytes frames accepted h =
        alone_refused b frame c f frames.0 bytes h.0 frames.1 accepted.0
    none_after b (f ∷ fs) (g ∷ gs) frame c n bytes frames accepted h =
        let same = begins_once b g f h.0 frames.0 h.1 frames.1 in
        none_after frames.0 fs gs frame c h.3 (IsBytes-begins b f frames.0 frames.1 bytes).1 frames.2 accepted.1
        (subst (λ x. After x gs frame c h.3) same.1 h.4)

    pub accepted_none : (b : List ℕ) (fs : List Frame) → IsBytes b → Frames b fs → AllByRecursion accepts fs
        → (c : Cause) (at : ℕ) (frame : Option Frame) → IsFirstFault accepts refuses b c at frame → ⊥
    accepted_none b fs bytes frames accepted c at frame h =
        none_after b fs h.frames frame c at bytes frames accepted (by_frames b c at frame h)
