-- Laws of frames, over the definitions alone.
use Rattle.std.specs.Prelude.{◌≡◌, ◌⊎◌, ◌↔◌, ℕ, List}
use Rattle.nla_wire.specs.Frames.{Frame, IsBytes, Frames, Fault}
use Rattle.nla_wire.specs.Spellings.{IsConcatenation, IsFaultAfter}
use Rattle.nla_wire.specs.declared.error.Cause.{Cause}

-- bytes are frames, or frames and then a fault
abbrev pub SomeReading : Type 0
SomeReading = (b : List ℕ) → IsBytes b
    → ((fs : List Frame) × Frames b fs) ⊎ ((fs : List Frame) × (c : Cause) × Fault b fs c)

-- no bytes are two lists of frames
abbrev pub OneListOfFrames : Type 0
OneListOfFrames = (b : List ℕ) (fs gs : List Frame) → Frames b fs → Frames b gs → fs ≡ gs

-- no bytes that are frames have a fault
abbrev pub NeverBoth : Type 0
NeverBoth = (b : List ℕ) (fs gs : List Frame) (c : Cause) → Frames b fs → Fault b gs c → ⊥

-- no bytes have two faults, or one after two lists of frames
abbrev pub OneFault : Type 0
OneFault = (b : List ℕ) (fs gs : List Frame) (c d : Cause) → Fault b fs c → Fault b gs d → (fs ≡ gs) × (c ≡ d)

-- the frames of bytes are those whose spellings, one after the other, the bytes are
abbrev pub FramesAreSpellings : Type 0
FramesAreSpellings = (b : List ℕ) (fs : List Frame) → Frames b fs ↔ IsConcatenation b fs

-- and a fault stands after full spellings of the frames in front of it
abbrev pub FaultIsAfter : Type 0
FaultIsAfter = (b : List ℕ) (fs : List Frame) (c : Cause) → Fault b fs c ↔ IsFaultAfter b fs c
