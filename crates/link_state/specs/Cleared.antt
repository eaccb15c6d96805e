-- Bytes with another byte in the place of each that moves by itself: zero in the state encoding.
use Rattle.std.specs.Prelude.{ℕ, zero, suc, ◌+◌, List, ◌++◌, length, take, drop, replicate}
use Rattle.nla_wire.specs.Frames.{number, missing}
use Rattle.nla_wire.specs.Reading.{Step, step}
use Rattle.nla_wire.specs.Reading.Step.{End, Bad, Next}
use Rattle.link_nest.specs.declared.numbers.TheConstants.{IFLA_INFO_KIND}
use Rattle.link_state.specs.declared.numbers.TheConstants.{IFLA_INFO_SLAVE_KIND}
use Rattle.link_state.specs.Table.{action_of}
use Rattle.link_state.specs.Kinds.{kind_at}
use Rattle.link_state.specs.declared.level.Level.{Level}
use Rattle.link_state.specs.declared.level.Level.TheVariants.{Info}
use Rattle.link_state.specs.Table.{Action}
use Rattle.link_state.specs.Table.Action.{Keep, Clear, ClearPart, Enter, EnterInfo}

-- the level of members of IFLA_LINKINFO, by the kinds among them
abbrev pub info_level : List ℕ → Level
info_level p = Info (kind_at IFLA_INFO_KIND p) (kind_at IFLA_INFO_SLAVE_KIND p)

-- a byte in place of those from one place to before the other, as far as there are any
abbrev pub part : ℕ → ℕ → ℕ → List ℕ → List ℕ
part by from to p = take from (take to p) ++ replicate (length (drop from (take to p))) by ++ drop to p

-- a payload in which the byte was written, where lists in it are filled by `inner`
abbrev pub payload_by : ℕ → (Level → List ℕ → List ℕ) → Action → List ℕ → List ℕ
payload_by by inner Keep p = p
payload_by by inner Clear p = replicate (length p) by
payload_by by inner (ClearPart from to) p = part by from to p
payload_by by inner (Enter level) p = inner level p
payload_by by inner EnterInfo p = inner (info_level p) p

-- the bytes b, which begin with what the step says: header and padding are kept, and what begins with no frame
abbrev pub filled_on : ℕ → (Level → List ℕ → List ℕ) → Level → List ℕ → Step → List ℕ
filled_on by inner level b End = b
filled_on by inner level b (Bad c) = b
filled_on by inner level b (Next f rest) =
    take 4 b ++ payload_by by inner (action_of level (number f)) f.payload
    ++ take (missing (length f.payload)) (drop (4 + length f.payload) b) ++ inner level rest

unfoldable pub filled_within : ℕ → ℕ → Level → List ℕ → List ℕ
filled_within by zero level b = b
filled_within by (suc n) level b = filled_on by (filled_within by n) level b (step b)

-- the frames of b in order, up to a fault
unfoldable pub filled : ℕ → Level → List ℕ → List ℕ
filled by level b = filled_within by (length b) level b

-- the same with zeros
abbrev pub cleared : Level → List ℕ → List ℕ
cleared = filled 0
