-- Which bytes are cleared.
use Rattle.std.specs.Prelude.{ℕ, zero, suc, ◌+◌, ◌-◌, min, List, [], ◌∷◌, ◌++◌, length, take, drop, replicate, Bool}
use Rattle.std.specs.Prelude.{true, false, if◌then◌else◌, ◌≡◌}
use Rattle.nla_wire.specs.Frames.{number, missing}
use Rattle.nla_wire.specs.Reading.{Step, step}
use Rattle.nla_wire.specs.Reading.Step.{End, Bad, Next}
use Rattle.link_state.specs.Table.{action_of}
use Rattle.link_state.specs.Cleared.{info_level}
use Rattle.link_state.specs.declared.level.Level.{Level}
use Rattle.link_state.specs.Table.{Action}
use Rattle.link_state.specs.Table.Action.{Keep, Clear, ClearPart, Enter, EnterInfo}

-- of so many bytes those from one place to before the other
abbrev pub part_mask : ℕ → ℕ → ℕ → List Bool
part_mask from to n =
    replicate (min from (min to n)) false ++ replicate (min to n - from) true ++ replicate (n - to) false

abbrev pub payload_mask : (Level → List ℕ → List Bool) → Action → List ℕ → List Bool
payload_mask inner Keep p = replicate (length p) false
payload_mask inner Clear p = replicate (length p) true
payload_mask inner (ClearPart from to) p = part_mask from to (length p)
payload_mask inner (Enter level) p = inner level p
payload_mask inner EnterInfo p = inner (info_level p) p

abbrev pub mask_on : (Level → List ℕ → List Bool) → Level → List ℕ → Step → List Bool
mask_on inner level b End = replicate (length b) false
mask_on inner level b (Bad c) = replicate (length b) false
mask_on inner level b (Next f rest) =
    replicate 4 false ++ payload_mask inner (action_of level (number f)) f.payload
    ++ replicate (length (take (missing (length f.payload)) (drop (4 + length f.payload) b))) false ++ inner level rest

unfoldable pub mask_within : ℕ → Level → List ℕ → List Bool
mask_within zero level b = replicate (length b) false
mask_within (suc n) level b = mask_on (mask_within n) level b (step b)

-- a truth value for each byte of b: whether it is cleared
unfoldable pub mask : Level → List ℕ → List Bool
mask level b = mask_within (length b) level b

-- payloads of equal length of which the same is cleared: of a list that is entered its frames count
abbrev pub same_payload : (Level → List ℕ → List ℕ → Type 0) → Action → List ℕ → List ℕ → Type 0
same_payload inner (Enter level) p q = inner level p q
same_payload inner EnterInfo p q = (info_level p ≡ info_level q) × inner (info_level p) p q
same_payload inner _ p q = Unit {0}

abbrev pub same_step : (Level → List ℕ → List ℕ → Type 0) → Level → Step → Step → Type 0
same_step inner level (Next f rest) (Next g later) =
    (number f ≡ number g) × (length f.payload ≡ length g.payload)
    × same_payload inner (action_of level (number f)) f.payload g.payload × inner level rest later
same_step inner level End End = Unit {0}
same_step inner level (Bad c) (Bad d) = Unit {0}
same_step inner level s t = ⊥

unfoldable pub same_frames_within : ℕ → Level → List ℕ → List ℕ → Type 0
same_frames_within zero level b c = length b ≡ length c
same_frames_within (suc n) level b c =
    (length b ≡ length c) × same_step (same_frames_within n) level (step b) (step c)

-- the frames of both have the same numbers and lengths, as far as the first fault, also in the lists in them that are
-- entered, of which that of IFLA_LINKINFO names the same kinds; no other payload counts, and no padding
unfoldable pub SameFrames : Level → List ℕ → List ℕ → Type 0
SameFrames level b c = same_frames_within (length b) level b c

-- the byte where the mask says so
abbrev pub stamp : ℕ → List Bool → List ℕ → List ℕ
stamp by [] b = b
stamp by (m ∷ ms) [] = []
stamp by (m ∷ ms) (x ∷ b) = (if m then by else x) ∷ stamp by ms b

-- zeros where the mask says so
abbrev pub blank : List Bool → List ℕ → List ℕ
blank = stamp 0
