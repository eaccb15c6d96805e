-- What a fault's place says: where it is, and the numbers of the attributes that lead to it.
use Rattle.std.specs.Prelude.{◌≡◌, ℕ, ◌+◌, ◌<◌, ◌≤◌, List, [], ◌∷◌, length, take, Option, None, Some}
use Rattle.nla_wire.specs.declared.error.Cause.{Cause}
use Rattle.link_msg.specs.Nested.{Inside}
use Rattle.link_msg.specs.FaultAt.{FaultIn, NoFaultIn, FaultsAlong}
use Rattle.link_msg.specs.Messages.{Means, FirstFault}
use Rattle.link_msg.specs.declared.message.LinkMessage.{LinkMessage}
use Rattle.link_msg.specs.declared.fault_path.FaultPath.{FaultPath}

-- the numbers that lead to a fault
abbrev pub numbers_to : FaultPath → List ℕ
numbers_to p = take p.depth p.numbers

-- the fault of these bytes, which is so deep at most; or they have none, or are no list
abbrev pub IsPathIn : Inside → List ℕ → ℕ → Option FaultPath → Type 0
IsPathIn t b most None = NoFaultIn t b
IsPathIn t b most (Some p) =
    (p.depth ≤ most) × (p.offset < length b) × ((c : Cause) × FaultIn t b c p.offset (numbers_to p))

-- one frame further out: the fault is that of a frame of this number, which starts there, and is inside of its payload
-- where there is one
abbrev pub Extends : ℕ → ℕ → Option FaultPath → FaultPath → Type 0
Extends at n None p = (p.depth ≡ 1) × (p.offset ≡ at) × (numbers_to p ≡ n ∷ [])
Extends at n (Some q) p =
    (p.depth ≡ q.depth + 1) × (p.offset ≡ at + 4 + q.offset) × (numbers_to p ≡ n ∷ numbers_to q)

-- the bytes mean a message; or this is their fault, and that is where it is
abbrev pub IsPathOf : List ℕ → Option FaultPath → Type 0
IsPathOf b None = (m : LinkMessage) × Means b m
IsPathOf b (Some p) = (c : Cause) × FirstFault b c × FaultsAlong b c p.offset (numbers_to p)
