use Rattle.std.proofs.Common.{◌≡◌, ◌*◌, take}
use Rattle.std.specs.Int.{w32}
use Rattle.nla_wire.specs.Fields.{le_all_signed}
use Rattle.nla_wire.proofs.fields.put_i32s.Given as goal

abbrev pub invariant-loop-i : goal.invariant-loop-i
invariant-loop-i l = take (4 * l.i) l.buffer ≡ le_all_signed w32 (take l.i l.words)
