-- Several numbers at once, and where the last frame of each starts in a list.
use Rattle.std.specs.Prelude.{◌≡◌, ℕ, ◌-◌, ◌==◌, if◌then◌else◌, List, length, map, drop}
use Rattle.std.specs.Prelude.{Option, None, Some, Result, Ok, Err}
use Rattle.std.specs.List.{AllByRecursion}
use Rattle.nla_wire.specs.Frames.{Frame}
use Rattle.nla_wire.specs.Items.{items}
use Rattle.nla_wire.specs.Reading.{front, step, ◌>>=◌}
use Rattle.nla_wire.specs.declared.error.Cause.{Cause}
use Rattle.nla_wire.specs.declared.error.DecodeError.{DecodeError}
use Rattle.link_view.specs.Views.{latest}
use Rattle.link_view.specs.declared.sought.Sought.{Sought}

-- the frame at which so many bytes of b are left; at none there is no frame
abbrev pub found_at : List ℕ → ℕ → Result (Option Frame) Cause
found_at b left = if left == 0 then Ok None else front (step (drop (length b - left) b)) >>= λ f. Ok (Some f)

-- found nowhere
abbrev pub cleared : Sought → Sought
cleared s = record { number = s.number; left = 0 }

-- found where a frame of this number starts, and so many bytes are left
abbrev pub kept : ℕ → ℕ → Sought → Sought
kept n left s = if n == s.number then record { number = s.number; left = left } else s

-- the numbers that are looked for
abbrev pub numbers : List Sought → List ℕ
numbers ss = map (λ s. s.number) ss

-- where it was found the last frame of its number starts; it is nowhere where b has none
abbrev pub IsFound : List ℕ → Sought → Type 0
IsFound b s = found_at b s.left ≡ latest s.number None (items b)

-- each number was found in b; or the frames end with a fault, which each would meet
abbrev pub AreFound : List ℕ → List Sought → List Sought → Result (Unit {0}) DecodeError → Type 0
AreFound b old new (Ok done) = (numbers new ≡ numbers old) × AllByRecursion (IsFound b) new
AreFound b old new (Err e) = AllByRecursion (λ s. latest s.number None (items b) ≡ Err e.cause) old
