-- Laws of records that are shorter or longer than their size, and of what no attribute means.
use Rattle.std.specs.Prelude.{◌≡◌, ◌↔◌, ℕ, ◌≤◌, List, ◌++◌, length, replicate}
use Rattle.nla_wire.specs.Frames.{Frame, number}

-- zeros after the payload of an attribute of this number change nothing of what it means
abbrev pub ZerosAdded : {V : Type 0} → (Frame → V → Type 0) → ℕ → Type 0
ZerosAdded {V} means n = (kind : ℕ) (p : List ℕ) (zeros : ℕ) (v : V) → number (record { kind = kind; payload = p }) ≡ n
    → means (record { kind = kind; payload = p ++ replicate zeros 0 }) v ↔ means (record { kind = kind; payload = p }) v

-- of a payload longer than its record, which has this size, only the front counts
abbrev pub LongerIgnored : {V : Type 0} → (Frame → V → Type 0) → ℕ → ℕ → Type 0
LongerIgnored {V} means n size = (kind : ℕ) (p more : List ℕ) (v : V) → number (record { kind = kind; payload = p }) ≡ n
    → size ≤ length p
    → means (record { kind = kind; payload = p ++ more }) v ↔ means (record { kind = kind; payload = p }) v

-- no attribute means such a value
abbrev pub NeverRead : {A V : Type 0} → (Frame → V → Type 0) → (A → V) → Type 0
NeverRead {A} means variant = (f : Frame) (a : A) → means f (variant a) → ⊥
