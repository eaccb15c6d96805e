-- Attribute frames, their spellings in bytes, and the frames of a byte string (rtnetlink(7), linux/netlink.h).
use Rattle.std.specs.Prelude.{◌≡◌, ℕ, ◌+◌, ◌-◌, ◌%◌, ◌^◌, ◌<◌, ◌≤◌, nat_le, Bool, List, [], ◌∷◌, ◌++◌, ◌⊎◌, length}
use Rattle.std.specs.Prelude.{take}
use Rattle.std.specs.Int.{w16, to_le_bytes, from_le_bytes}
use Rattle.std.specs.List.{AllByRecursion}
use Rattle.nla_wire.specs.Sizes.{most_payload}
use Rattle.nla_wire.specs.declared.error.Cause.{Cause}
use Rattle.nla_wire.specs.declared.error.Cause.TheVariants.{TooShort, FrameShort, FrameOver, FrameUnder, EmptyList}
use Rattle.nla_wire.specs.declared.error.Cause.TheVariants.{WrongLength, NotUtf8, InvalidState, OutOfMemory}

-- a frame: its kind, which is a number and two flag bits, and its payload
pub record Frame : Type 0 where
  pub kind : ℕ
  pub payload : List ℕ

-- the kind without its two flag bits
abbrev pub number : Frame → ℕ
number f = f.kind % 2 ^ 14

-- NLA_F_NESTED is set
abbrev pub is_nested : Frame → Bool
is_nested f = nat_le 32768 f.kind

-- NLA_F_NET_BYTEORDER is set
abbrev pub is_network_order : Frame → Bool
is_network_order f = nat_le 16384 (f.kind % 32768)

-- each is a byte
abbrev pub IsBytes : List ℕ → Type 0
IsBytes b = AllByRecursion (λ x. x < 256) b

-- a frame that bytes can spell
pub record IsFrame (f : Frame) : Type 0 where
  pub kind : f.kind < 2 ^ 16
  pub size : length f.payload ≤ most_payload
  pub bytes : IsBytes f.payload

-- how many bytes are missing to the next multiple of four
abbrev pub missing : ℕ → ℕ
missing n = (4 - n % 4) % 4

-- length, kind and payload: the length counts the header, and not the padding
abbrev pub unpadded : Frame → List ℕ
unpadded f = to_le_bytes w16 (4 + length f.payload) ++ to_le_bytes w16 f.kind ++ f.payload

-- b begins with a spelling of f, and `rest` follows it. All of the padding is there, or nothing follows
pub record Begins (b : List ℕ) (f : Frame) (rest : List ℕ) : Type 0 where
  pub kind : f.kind < 2 ^ 16
  pub size : length f.payload ≤ most_payload
  pub padding : List ℕ
  pub parts : b ≡ unpadded f ++ padding ++ rest
  pub padded : length padding ≤ missing (length f.payload)
  pub full : (length padding ≡ missing (length f.payload)) ⊎ (rest ≡ [])

-- b is one spelling of each frame, in order
abbrev pub Frames : List ℕ → List Frame → Type 0
Frames b [] = b ≡ []
Frames b (f ∷ fs) = (rest : List ℕ) × Begins b f rest × Frames rest fs

-- why b, which isn't empty, begins with no frame
abbrev pub BadStart : List ℕ → Cause → Type 0
BadStart b (FrameShort left) = (0 < length b) × (length b < 4) × (left ≡ length b)
BadStart b (FrameOver len left) =
    (4 ≤ length b) × (len ≡ from_le_bytes w16 (take 2 b)) × (length b < len) × (left ≡ length b)
BadStart b (FrameUnder len) = (4 ≤ length b) × (len ≡ from_le_bytes w16 (take 2 b)) × (len < 4)
BadStart b (TooShort got need) = ⊥
BadStart b EmptyList = ⊥
BadStart b (WrongLength got want) = ⊥
BadStart b NotUtf8 = ⊥
BadStart b InvalidState = ⊥
BadStart b OutOfMemory = ⊥

-- b is the frames and then a rest that begins with none
abbrev pub Fault : List ℕ → List Frame → Cause → Type 0
Fault b [] c = BadStart b c
Fault b (f ∷ fs) c = (rest : List ℕ) × Begins b f rest × Fault rest fs c

-- why b, which may be empty, begins with no frame
abbrev pub BadFront : List ℕ → Cause → Type 0
BadFront b c = BadStart b c ⊎ ((b ≡ []) × (c ≡ FrameShort 0))

-- b begins with no spelling of a frame
abbrev pub BeginsWithNone : List ℕ → Type 0
BeginsWithNone b = (f : Frame) (rest : List ℕ) → Begins b f rest → ⊥
