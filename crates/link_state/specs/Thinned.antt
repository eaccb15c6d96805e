-- Lists without the frames of which nothing moves by itself.
use Rattle.std.specs.Prelude.{ℕ, zero, suc, ◌+◌, List, [], ◌∷◌, ◌++◌, length, take, drop, Bool, true, false, filter}
use Rattle.std.specs.Int.{w16, to_le_bytes}
use Rattle.nla_wire.specs.Frames.{number, missing}
use Rattle.nla_wire.specs.Reading.{Step, step}
use Rattle.nla_wire.specs.Reading.Step.{End, Bad, Next}
use Rattle.link_afspec.specs.Tables.{af_spec_inet6_place}
use Rattle.link_afspec.specs.declared.inet6.AfSpecInet6.{AfSpecInet6}
use Rattle.link_afspec.specs.declared.unspec.AfSpecUnspec.{AfSpecUnspec}
use Rattle.link_afspec.specs.declared.unspec.AfSpecUnspec.TheVariants as unspec
use Rattle.link_state.specs.Table.{Action, action_of}
use Rattle.link_state.specs.Table.Action.{Keep, Clear, ClearPart, Enter, EnterInfo}
use Rattle.link_state.specs.declared.level.Level.{Level}
use Rattle.link_state.specs.declared.level.Level.TheVariants.{Inet6}

-- a frame with this kind, two bytes, and a list as its payload; none where nothing is left of the list
abbrev pub wrapped : List ℕ → List ℕ → List ℕ
wrapped kind [] = []
wrapped kind (x ∷ p) = to_le_bytes w16 (4 + length (x ∷ p)) ++ (kind ++ (x ∷ p))

-- what is left of a frame with the payload p that stands in the bytes b: nothing if it is kept, and all if bytes of its
-- payload are cleared; of a list what `inner` leaves
abbrev pub left_of : (Level → List ℕ → List ℕ) → Action → List ℕ → List ℕ → List ℕ
left_of inner Keep p b = []
left_of inner Clear p b = b
left_of inner (ClearPart from to) p b = b
left_of inner (Enter level) p b = wrapped (take 2 (drop 2 b)) (inner level p)
left_of inner EnterInfo p b = b

-- of the bytes b, which begin with what the step says; what begins with no frame is kept
abbrev pub thinned_on : (Level → List ℕ → List ℕ) → Level → List ℕ → Step → List ℕ
thinned_on inner level b End = b
thinned_on inner level b (Bad c) = b
thinned_on inner level b (Next f rest) =
    left_of inner (action_of level (number f)) f.payload (take (4 + length f.payload + missing (length f.payload)) b)
    ++ inner level rest

unfoldable pub thinned_within : ℕ → Level → List ℕ → List ℕ
thinned_within zero level b = b
thinned_within (suc n) level b = thinned_on (thinned_within n) level b (step b)

-- the frames of b in order, up to a fault, without those that are kept
unfoldable pub thinned : Level → List ℕ → List ℕ
thinned level b = thinned_within (length b) level b

-- ** the values that are left

-- whether bytes of an attribute are cleared
abbrev pub is_moving : Action → Bool
is_moving Keep = false
is_moving Clear = true
is_moving (ClearPart from to) = true
is_moving (Enter level) = true
is_moving EnterInfo = true

abbrev pub inet6_left : List AfSpecInet6 → List AfSpecInet6
inet6_left vs = filter (λ v. is_moving (action_of Inet6 (number (af_spec_inet6_place.frame v)))) vs

-- settings of IPv6 as those of a family, if there are any
abbrev pub as_family : List AfSpecInet6 → List AfSpecUnspec
as_family [] = []
as_family (w ∷ ws) = unspec.Inet6 (w ∷ ws) ∷ []

abbrev pub family_left : AfSpecUnspec → List AfSpecUnspec
family_left (unspec.Inet6 ws) = as_family (inet6_left ws)
family_left _ = []

abbrev pub families_left : List AfSpecUnspec → List AfSpecUnspec
families_left [] = []
families_left (v ∷ vs) = family_left v ++ families_left vs
