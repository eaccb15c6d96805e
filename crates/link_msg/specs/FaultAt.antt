-- Where the first fault of a list of attributes, and of a message, is: at each depth the first member that is refused,
-- and the numbers of those that lead to the innermost.
use Rattle.std.specs.Prelude.{◌≡◌, ℕ, ◌+◌, ◌%◌, ◌<◌, ◌⊎◌, List, [], ◌∷◌, ◌++◌, length}
use Rattle.std.specs.Prelude.{Option, None, Some}
use Rattle.std.specs.List.{AllByRecursion}
use Rattle.nla_wire.specs.Frames.{Frame, number, Begins, Frames, BadStart}
use Rattle.nla_wire.specs.declared.error.Cause.{Cause}
use Rattle.nla_wire.specs.declared.error.Cause.TheVariants.{TooShort}
use Rattle.link_msg.specs.Header.{header_size, IsHeader}
use Rattle.link_msg.specs.Nested.{Inside, outermost}
use Rattle.link_msg.specs.Nested.Inside.{Flat, Members}
use Rattle.link_msg.specs.declared.header.LinkHeader.{LinkHeader}

-- ** one list

-- the bytes begin with no frame, for this cause; or with this one, which is refused for it
abbrev pub FaultsAlone : (Frame → Cause → Type 0) → List ℕ → Option Frame → Cause → Type 0
FaultsAlone refuses b None c = BadStart b c
FaultsAlone refuses b (Some f) c = (rest : List ℕ) × Begins b f rest × refuses f c

-- b is frames, each of which is accepted
abbrev pub AllAccepted : (Frame → Type 0) → List ℕ → Type 0
AllAccepted accepts b = (fs : List Frame) × Frames b fs × AllByRecursion accepts fs

-- `at` bytes of b are frames that are accepted; and what begins after them has this fault by itself
pub record IsFirstFault (accepts : Frame → Type 0) (refuses : Frame → Cause → Type 0) (b : List ℕ) (c : Cause) (at : ℕ)
    (frame : Option Frame) : Type 0 where
  pub before : List ℕ
  pub later : List ℕ
  pub parts : b ≡ before ++ later
  pub at_end : at ≡ length before
  pub aligned : at % 4 ≡ 0
  pub frames : List Frame
  pub spelt : Frames before frames
  pub accepted : AllByRecursion accepts frames
  pub alone : FaultsAlone refuses later frame c

-- ** lists in lists

-- the fault of a list, whose first fault starts there: bytes that are no frame are where it is. A frame is where it is
-- too, if its payload is no list that has a fault; else it is where that fault is, after the header of the frame
abbrev pub LeadsTo : (Frame → Cause → ℕ → List ℕ → Type 0) → Cause → ℕ → Option Frame → ℕ → List ℕ → Type 0
LeadsTo HasInside c start None at numbers = (at ≡ start) × (numbers ≡ [])
LeadsTo HasInside c start (Some f) at numbers =
    ((inner : ℕ) × (more : List ℕ) × HasInside f c inner more × (at ≡ start + 4 + inner)
    × (numbers ≡ number f ∷ more))
    ⊎ (((d : Cause) (inner : ℕ) (more : List ℕ) → HasInside f d inner more → ⊥) × (at ≡ start)
    × (numbers ≡ number f ∷ []))

-- the bytes have this fault, and so many of them stand before the innermost frame at fault, or before the bytes that
-- are no frame; the numbers are those of the frames at fault, the outermost first
abbrev pub FaultIn : Inside → List ℕ → Cause → ℕ → List ℕ → Type 0
FaultIn Flat b c at numbers = ⊥
FaultIn (Members accepts refuses inside) b c at numbers =
    (start : ℕ) × (frame : Option Frame) × IsFirstFault accepts refuses b c start frame
    × LeadsTo (λ f. FaultIn (inside f) f.payload) c start frame at numbers

-- bytes that have no fault, or are no list
abbrev pub NoFaultIn : Inside → List ℕ → Type 0
NoFaultIn t b = (c : Cause) (at : ℕ) (numbers : List ℕ) → FaultIn t b c at numbers → ⊥

-- ** messages

-- the attributes after the header have this fault there
pub record FaultsAfter (b : List ℕ) (c : Cause) (at : ℕ) (numbers : List ℕ) : Type 0 where
  pub header : List ℕ
  pub fields : LinkHeader
  pub attributes : List ℕ
  pub parts : b ≡ header ++ attributes
  pub says : IsHeader header fields
  pub inner : ℕ
  pub inside : FaultIn (outermost fields.interface_family) attributes c inner numbers
  pub place : at ≡ header_size + inner

-- the fault of b is there, and these numbers lead to it: b is shorter than a header, or its attributes have the fault
abbrev pub FaultsAlong : List ℕ → Cause → ℕ → List ℕ → Type 0
FaultsAlong b c at numbers =
    ((length b < header_size) × (c ≡ TooShort (length b) header_size) × (at ≡ 0) × (numbers ≡ []))
    ⊎ FaultsAfter b c at numbers

-- the fault of b is there
abbrev pub FaultsAt : List ℕ → Cause → ℕ → Type 0
FaultsAt b c at = (numbers : List ℕ) × FaultsAlong b c at numbers
