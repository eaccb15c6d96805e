use Rattle.std.proofs.Common.{ℕ, ◌≤◌, ◌↔◌, drop}
use Rattle.std.specs.List.{AllByRecursion}
use Rattle.nla_wire.proofs.text.highest.Given as goal

abbrev pub invariant-loop-byte : goal.invariant-loop-byte
invariant-loop-byte l = (n : ℕ)
    → (AllByRecursion (λ b. b ≤ n) l.bytes ↔ ((l.high ≤ n) × AllByRecursion (λ b. b ≤ n) (drop l.byte-index l.bytes)))
