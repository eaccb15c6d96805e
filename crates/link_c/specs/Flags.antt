-- What the flags of a call say.
use Rattle.std.specs.Prelude.{◌≡◌, ℕ, ◌+◌, ◌≤◌, if◌then◌else◌, Result, Ok, Err}
use Rattle.link_c.specs.declared.flags.Flags.{Flags}
use Rattle.link_c.specs.declared.refusal.Refusal.{Refusal}
use Rattle.link_c.specs.declared.refusal.Refusal.TheVariants.{UnknownFlag}

-- their number: the sum of LINKWIRE_LENIENT and LINKWIRE_COUNTERS of linkwire.h, as far as they are set
abbrev pub flags_number : Flags → ℕ
flags_number f = (if f.lenient then 1 else 0) + (if f.counters then 2 else 0)

-- what the number says; or some flag in it is none of these
abbrev pub AreFlags : ℕ → Result Flags Refusal → Type 0
AreFlags n (Ok f) = n ≡ flags_number f
AreFlags n (Err UnknownFlag) = 4 ≤ n
AreFlags n (Err e) = ⊥
