-- Lists of attributes: what `linkwire_next` finds at a place, and what `linkwire_put` writes there.
use Rattle.std.specs.Prelude.{◌≡◌, ◌↔◌, ℕ, ◌+◌, ◌<◌, ◌≤◌, min, Bool, true, false, List, [], ◌∷◌, ◌++◌, length, take}
use Rattle.std.specs.Prelude.{drop, Result, Ok, Err}
use Rattle.nla_wire.specs.Sizes.{most_payload}
use Rattle.nla_wire.specs.Frames.{Frame, Frames, Fault, Begins, missing}
use Rattle.nla_wire.specs.Canon.{canon}
use Rattle.nla_wire.specs.declared.error.Cause.{Cause}
use Rattle.link_c.specs.declared.list.Attribute.{Attribute}
use Rattle.link_c.specs.declared.refusal.Refusal.{Refusal}
use Rattle.link_c.specs.declared.refusal.Refusal.TheVariants as Refusals

-- the frame that the attribute tells of
abbrev pub told : List ℕ → Attribute → Frame
told b a = record { kind = a.kind; payload = take a.payload_len (drop a.payload b) }

-- the attribute tells of the frame at this place of b, and the next place is where the list goes on: at the next
-- multiple of four after the frame, or at the end of b. The frames from this place on are this one and those from the
-- next place on
pub record IsStep (b : List ℕ) (at next : ℕ) (a : Attribute) : Type 0 where
  pub begins : Begins (drop at b) (told b a) (drop next b)
  pub payload : a.payload ≡ at + 4
  pub within : a.payload + a.payload_len ≤ length b
  pub next_is : next ≡ min (at + 4 + a.payload_len + missing a.payload_len) (length b)
  pub frames : (fs : List Frame) → Frames (drop at b) (told b a ∷ fs) ↔ Frames (drop next b) fs
  pub fault : (fs : List Frame) (c : Cause) → Fault (drop at b) (told b a ∷ fs) c ↔ Fault (drop next b) fs c

-- yes, and the attribute tells of the frame at this place; no, where the list is over; or the fault that stands there.
-- But for the first, place and attribute are unchanged
abbrev pub IsNext : List ℕ → ℕ → ℕ → Attribute → Attribute → Result Bool Refusal → Type 0
IsNext b at next old new (Ok true) = (at < length b) × IsStep b at next new
IsNext b at next old new (Ok false) = (length b ≤ at) × Frames (drop at b) [] × (next ≡ at) × (new ≡ old)
IsNext b at next old new (Err (Refusals.Fault c)) = (at < length b) × Fault (drop at b) [] c × (next ≡ at) × (new ≡ old)
IsNext b at next old new (Err e) = ⊥

-- the text of the frame stands at this place, the next place is after it, and all other bytes are kept
pub record IsPlaced (f : Frame) (old new : List ℕ) (at next : ℕ) : Type 0 where
  pub small : length f.payload ≤ most_payload
  pub next_is : next ≡ at + length (canon f)
  pub within : next ≤ length old
  pub new_is : new ≡ take at old ++ canon f ++ drop next old

-- what was put; or the payload is too long, or there is no room, and nothing changed
abbrev pub IsPut : ℕ → List ℕ → List ℕ → List ℕ → ℕ → ℕ → Result (Unit {0}) Refusal → Type 0
IsPut kind p old new at next (Ok done) = IsPlaced (record { kind = kind; payload = p }) old new at next
IsPut kind p old new at next (Err Refusals.Unfit) = (most_payload < length p) × (new ≡ old) × (next ≡ at)
IsPut kind p old new at next (Err Refusals.NoRoom) =
    (length p ≤ most_payload) × (length old < at + length (canon (record { kind = kind; payload = p })))
    × (new ≡ old) × (next ≡ at)
IsPut kind p old new at next (Err e) = ⊥
