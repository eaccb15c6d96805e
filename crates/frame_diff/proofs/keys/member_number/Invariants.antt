use Rattle.std.proofs.Common.{◌≡◌, drop}
use Rattle.frame_diff.specs.Keys.{member_number}
use Rattle.frame_diff.proofs.keys.member_number.Given as goal

abbrev pub invariant-loop-own : goal.invariant-loop-own
invariant-loop-own l =
    member_number (drop l.own-index l.members) l.name l.rest ≡ member_number l.members l.name l.bytes
