-- What the iterator over frames gives: the frames of bytes one after the other, and where one is damaged its fault, as
-- the last item.
use Rattle.std.specs.Prelude.{◌≡◌, ℕ, ◌+◌, List, [], ◌∷◌, ◌++◌, ◌⊎◌, length, map, Option, None, Some, Result, Ok, Err}
use Rattle.nla_wire.specs.Frames.{Frame, Frames, Fault}
use Rattle.nla_wire.specs.Reading.{cut, ◌>>=◌}
use Rattle.nla_wire.specs.declared.error.Cause.{Cause}

-- a frame, or the fault that ends the frames
abbrev pub Item : Type 0
Item = Result Frame Cause

-- frames, and then a fault or the end
abbrev pub items_of : List Frame → Option Cause → List Item
items_of [] None = []
items_of [] (Some c) = Err c ∷ []
items_of (f ∷ fs) stop = Ok f ∷ items_of fs stop

-- the items of bytes
unfoldable pub items : List ℕ → List Item
items b = items_of (cut b).frames (cut b).stop

-- items that are all frames
abbrev pub all_frames : List Frame → List Item
all_frames fs = map (λ f. Ok f) fs

-- the frames of b, or those in front of its fault, and the fault
abbrev pub AreItems : List ℕ → List Item → Type 0
AreItems b xs =
    ((fs : List Frame) × Frames b fs × (xs ≡ all_frames fs))
    ⊎ ((fs : List Frame) × (c : Cause) × Fault b fs c × (xs ≡ all_frames fs ++ Err c ∷ []))

-- how many bytes the frames have, without padding
abbrev pub size : List Item → ℕ
size [] = 0
size ((Ok f) ∷ xs) = 4 + length f.payload + size xs
size ((Err c) ∷ xs) = size xs

-- how many of the items are frames
abbrev pub frame_count : List Item → ℕ
frame_count [] = 0
frame_count ((Ok f) ∷ xs) = 1 + frame_count xs
frame_count ((Err c) ∷ xs) = frame_count xs

-- the list that these items are read as
abbrev pub read_items : {V : Type 0} → (Frame → Result V Cause) → List Item → Result (List V) Cause
read_items read [] = Ok []
read_items read ((Err c) ∷ xs) = Err c
read_items read ((Ok f) ∷ xs) = do
  v ← read f
  vs ← read_items read xs
  Ok (v ∷ vs)
