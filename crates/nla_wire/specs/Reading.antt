-- Bytes cut into frames from the front, and lists of values read from them, as functions.
use Rattle.std.specs.Prelude.{ℕ, zero, suc, ◌+◌, ◌-◌, nat_lt, if◌then◌else◌, List, [], ◌∷◌, ◌++◌, length, take, drop}
use Rattle.std.specs.Prelude.{Option, None, Some, Result, Ok, Err}
use Rattle.std.specs.Int.{w16, from_le_bytes}
use Rattle.nla_wire.specs.Frames.{Frame, missing}
use Rattle.nla_wire.specs.declared.error.Cause.{Cause}
use Rattle.nla_wire.specs.declared.error.Cause.TheVariants.{FrameShort, FrameOver, FrameUnder}

-- what stands at the front of bytes
pub data Step : Type 0 where
  End : Step
  Bad : Cause → Step
  Next : Frame → List ℕ → Step

-- after the header, whose length and kind are known
abbrev pub frame_at : ℕ → ℕ → List ℕ → Step
frame_at len kind p =
    if nat_lt (length p + 4) len then Bad (FrameOver len (length p + 4))
    else if nat_lt len 4 then Bad (FrameUnder len)
    else Next (record { kind = kind; payload = take (len - 4) p }) (drop (len - 4 + missing (len - 4)) p)

abbrev pub step : List ℕ → Step
step [] = End
step (a ∷ []) = Bad (FrameShort 1)
step (a ∷ b ∷ []) = Bad (FrameShort 2)
step (a ∷ b ∷ c ∷ []) = Bad (FrameShort 3)
step (a ∷ b ∷ c ∷ d ∷ p) = frame_at (from_le_bytes w16 (a ∷ b ∷ [])) (from_le_bytes w16 (c ∷ d ∷ [])) p

-- the frames, and why it stopped before the end
pub record Cut : Type 0 where
  pub frames : List Frame
  pub stop : Option Cause

abbrev pub cut_on : (List ℕ → Cut) → Step → Cut
cut_on rest_of End = record { frames = []; stop = None }
cut_on rest_of (Bad c) = record { frames = []; stop = Some c }
cut_on rest_of (Next f rest) = record { frames = f ∷ (rest_of rest).frames; stop = (rest_of rest).stop }

unfoldable pub cut_within : ℕ → List ℕ → Cut
cut_within zero b = record { frames = []; stop = None }
cut_within (suc n) b = cut_on (cut_within n) (step b)

unfoldable pub cut : List ℕ → Cut
cut b = cut_within (length b) b

infixl 10 ◌>>=◌
abbrev pub ◌>>=◌ : {A B : Type 0} → Result A Cause → (A → Result B Cause) → Result B Cause
(Ok x) >>= f = f x
(Err e) >>= f = Err e

abbrev pub each : {V : Type 0} → (Frame → Result V Cause) → List Frame → Result (List V) Cause
each read [] = Ok []
each read (f ∷ fs) = do
  v ← read f
  vs ← each read fs
  Ok (v ∷ vs)

abbrev pub unless : {A : Type 0} → Option Cause → A → Result A Cause
unless None x = Ok x
unless (Some c) x = Err c

-- each frame's value before the next frame
unfoldable pub list_of : {V : Type 0} → (Frame → Result V Cause) → List ℕ → Result (List V) Cause
list_of read b = do
  vs ← each read (cut b).frames
  unless (cut b).stop vs

-- values that were read before
abbrev pub with_front : {V : Type 0} → List V → Result (List V) Cause → Result (List V) Cause
with_front front read = read >>= λ vs. Ok (front ++ vs)

-- the frame at the front, or why there is none
abbrev pub front : Step → Result Frame Cause
front End = Err (FrameShort 0)
front (Bad c) = Err c
front (Next f rest) = Ok f
