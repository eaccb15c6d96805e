-- The frames of a byte string in the format's own words: a concatenation of spellings.
use Rattle.std.specs.Prelude.{◌≡◌, ℕ, ◌<◌, ◌≤◌, ◌^◌, List, [], ◌∷◌, ◌++◌, length}
use Rattle.std.specs.List.{flat_map}
use Rattle.nla_wire.specs.Sizes.{most_payload}
use Rattle.nla_wire.specs.Frames.{Frame, unpadded, missing, BadStart}
use Rattle.nla_wire.specs.declared.error.Cause.{Cause}

-- s spells f: length, kind, payload, then at most as much padding, of any bytes, as is missing to a multiple of four
pub record IsSpelling (s : List ℕ) (f : Frame) : Type 0 where
  pub kind : f.kind < 2 ^ 16
  pub size : length f.payload ≤ most_payload
  pub padding : List ℕ
  pub is : s ≡ unpadded f ++ padding
  pub padded : length padding ≤ missing (length f.payload)

-- the same with all of its padding
pub record IsFullSpelling (s : List ℕ) (f : Frame) : Type 0 where
  pub spelling : IsSpelling s f
  pub full : length spelling.padding ≡ missing (length f.payload)

-- each string spells the frame at its place, and all but the last have all of their padding
abbrev pub AreSpellings : List (List ℕ) → List Frame → Type 0
AreSpellings [] [] = Unit {0}
AreSpellings [] (f ∷ fs) = ⊥
AreSpellings (s ∷ ss) [] = ⊥
AreSpellings (s ∷ []) (f ∷ []) = IsSpelling s f
AreSpellings (s ∷ t ∷ ss) (f ∷ []) = ⊥
AreSpellings (s ∷ []) (f ∷ g ∷ fs) = ⊥
AreSpellings (s ∷ t ∷ ss) (f ∷ g ∷ fs) = IsFullSpelling s f × AreSpellings (t ∷ ss) (g ∷ fs)

-- b spells the frames one after the other, each with all its padding but perhaps the last
abbrev pub IsConcatenation : List ℕ → List Frame → Type 0
IsConcatenation b fs = (ss : List (List ℕ)) × (b ≡ flat_map (λ s. s) ss) × AreSpellings ss fs

-- each string is a full spelling of the frame at its place
abbrev pub AreFullSpellings : List (List ℕ) → List Frame → Type 0
AreFullSpellings [] [] = Unit {0}
AreFullSpellings [] (f ∷ fs) = ⊥
AreFullSpellings (s ∷ ss) [] = ⊥
AreFullSpellings (s ∷ ss) (f ∷ fs) = IsFullSpelling s f × AreFullSpellings ss fs

-- b is full spellings of the frames, and then a non-empty rest that begins with no spelling, for this cause
abbrev pub IsFaultAfter : List ℕ → List Frame → Cause → Type 0
IsFaultAfter b fs c = (ss : List (List ℕ)) × (rest : List ℕ) × (b ≡ flat_map (λ s. s) ss ++ rest)
    × AreFullSpellings ss fs × BadStart rest c
