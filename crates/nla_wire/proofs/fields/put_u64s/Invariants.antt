use Rattle.std.proofs.Common.{◌≡◌, ◌*◌, take}
use Rattle.std.specs.Int.{w64}
use Rattle.nla_wire.specs.Fields.{le_all}
use Rattle.nla_wire.proofs.fields.put_u64s.Given as goal

abbrev pub invariant-loop-i : goal.invariant-loop-i
invariant-loop-i l = take (8 * l.i) l.buffer ≡ le_all w64 (take l.i l.words)
