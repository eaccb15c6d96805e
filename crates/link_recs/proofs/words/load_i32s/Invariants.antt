use Rattle.std.proofs.Common.{◌≡◌, take}
use Rattle.std.specs.Int.{w32}
use Rattle.nla_wire.specs.Fields.{signed_from}
use Rattle.link_recs.proofs.words.load_i32s.Given as goal

abbrev pub invariant-loop-i : goal.invariant-loop-i
invariant-loop-i l = take l.i l.words ≡ signed_from w32 l.payload 0 l.i
