-- Canonical encoding: how frames and values are written, what a buffer holds after it, and what fits.
use Rattle.std.specs.Prelude.{◌≡◌, ℕ, ◌+◌, ◌^◌, ◌<◌, ◌≤◌, List, [], ◌∷◌, ◌++◌, length, take, drop, replicate, Option}
use Rattle.std.specs.Prelude.{None, Some, Result, Ok, Err}
use Rattle.std.specs.List.{flat_map, AllByRecursion}
use Rattle.nla_wire.specs.Sizes.{most_payload}
use Rattle.nla_wire.specs.Frames.{Frame, unpadded, missing}
use Rattle.nla_wire.specs.declared.error.Cause.{Cause}

-- the frame with all of its padding, which is zeros
abbrev pub canon : Frame → List ℕ
canon f = unpadded f ++ replicate (missing (length f.payload)) 0

-- the encodings of values in order, each written as its frame
abbrev pub canons : {V : Type 0} → (V → Frame) → List V → List ℕ
canons frame vs = flat_map (λ v. canon (frame v)) vs

-- each value fits, and the encoding of them all has a length that the machine can count
abbrev pub AllFit : {V : Type 0} → (V → Type 0) → (V → Frame) → List V → Type 0
AllFit fits frame vs = AllByRecursion fits vs × (length (canons frame vs) < 2 ^ 64)

-- the value of the frame has at most 65531 bytes
abbrev pub IsSmall : Frame → Type 0
IsSmall f = length f.payload ≤ most_payload

-- a frame has an encoding
pub record IsWritable (f : Frame) : Type 0 where
  pub kind : f.kind < 2 ^ 16
  pub size : length f.payload ≤ most_payload

-- a value that holds no others counts as one
abbrev pub one : {V : Type 0} → V → ℕ
one v = 1

-- the sum over the members
abbrev pub total : {V : Type 0} → (V → ℕ) → List V → ℕ
total count [] = 0
total count (v ∷ vs) = count v + total count vs

-- the length of a value's encoding, where the value fits
abbrev pub Measures : Type 0 → ℕ → Option ℕ → Type 0
Measures fits len (Some n) = fits × (n ≡ len)
Measures fits len None = fits → ⊥

-- ** what a call did to a buffer

-- the buffer's last bytes are the encoding, whose first byte is at `start`; the bytes before it are kept
abbrev pub Filled : List ℕ → List ℕ → List ℕ → ℕ → Type 0
Filled old new encoding start = (start + length encoding ≡ length old) × (new ≡ take start old ++ encoding)

-- the encoding stands at the front, it has n bytes, and the rest is kept
pub record Writes (encoding old new : List ℕ) (n : ℕ) : Type 0 where
  pub length_is : n ≡ length encoding
  pub new_is : new ≡ encoding ++ drop n old

-- ** encodings of values that are read from bytes, with no value made

-- how long the encoding of the value that is read is; nothing where the value does not fit, or none is read
abbrev pub Weighs : {V : Type 0} → (V → List ℕ) → (V → Type 0) → Result V Cause → Option ℕ → Type 0
Weighs encoding fits (Ok v) (Some n) = fits v × (n ≡ length (encoding v))
Weighs encoding fits (Ok v) None = fits v → ⊥
Weighs encoding fits (Err c) (Some n) = ⊥
Weighs encoding fits (Err c) None = Unit {0}

-- the same where bytes are read exactly if so many are there: that is how long the encoding is then
abbrev pub WeighsBySize : {V : Type 0} → (V → List ℕ) → (V → Type 0) → Result V Cause → ℕ → ℕ → Type 0
WeighsBySize encoding fits read there wanted =
    (wanted ≤ there → Weighs encoding fits read (Some wanted)) × (there < wanted → Weighs encoding fits read None)

-- a value is read, and it fits
abbrev pub IsFitting : {V : Type 0} → (V → Type 0) → Result V Cause → Type 0
IsFitting fits (Ok v) = fits v
IsFitting fits (Err c) = ⊥

-- the value that is read fits, and there is room for its encoding
abbrev pub HasRoom : {V : Type 0} → (V → List ℕ) → (V → Type 0) → Result V Cause → ℕ → Type 0
HasRoom encoding fits (Ok v) room = fits v × (length (encoding v) ≤ room)
HasRoom encoding fits (Err c) room = ⊥

-- the encoding of the value that is read stands at the front
abbrev pub Rewrites : {V : Type 0} → (V → List ℕ) → Result V Cause → List ℕ → List ℕ → ℕ → Type 0
Rewrites encoding (Ok v) old new n = Writes (encoding v) old new n
Rewrites encoding (Err c) old new n = Unit {0}

-- there is room for the encoding of the value that is read, if it fits
abbrev pub RoomWhereFit : {V : Type 0} → (V → List ℕ) → (V → Type 0) → Result V Cause → ℕ → Type 0
RoomWhereFit encoding fits (Ok v) room = fits v → length (encoding v) ≤ room
RoomWhereFit encoding fits (Err c) room = Unit {0}

-- the encoding of the value that is read stands at the front; or nothing changed, where it does not fit or none is read
abbrev pub Canonical : {V : Type 0} → (V → List ℕ) → (V → Type 0) → Result V Cause → List ℕ → List ℕ → Option ℕ → Type 0
Canonical encoding fits (Ok v) old new (Some n) = fits v × Writes (encoding v) old new n
Canonical encoding fits (Ok v) old new None = (fits v → ⊥) × (new ≡ old)
Canonical encoding fits (Err c) old new (Some n) = ⊥
Canonical encoding fits (Err c) old new None = new ≡ old

-- ** the same in the words of the relations, where Means is what the bytes mean

-- they mean a value that fits, whose encoding is so long; nothing where they mean none that fits
abbrev pub MeansLength : {V : Type 0} → (V → Type 0) → (V → List ℕ) → (V → Type 0) → Option ℕ → Type 0
MeansLength {V} Means encoding fits (Some n) = (v : V) × Means v × fits v × (n ≡ length (encoding v))
MeansLength {V} Means encoding fits None = (v : V) → Means v → fits v → ⊥

-- they mean a value that fits, whose encoding stands at the front; or they mean none that fits, and nothing changed
abbrev pub MeansEncoding : {V : Type 0} → (V → Type 0) → (V → List ℕ) → (V → Type 0) → List ℕ → List ℕ → Option ℕ
    → Type 0
MeansEncoding {V} Means encoding fits old new (Some n) = (v : V) × Means v × fits v × Writes (encoding v) old new n
MeansEncoding {V} Means encoding fits old new None = ((v : V) → Means v → fits v → ⊥) × (new ≡ old)

-- the encoding of what they mean stands at the front
abbrev pub MeansWritten : {V : Type 0} → (V → Type 0) → (V → List ℕ) → List ℕ → List ℕ → ℕ → Type 0
MeansWritten {V} Means encoding old new n = (v : V) → Means v → Writes (encoding v) old new n
