use Rattle.std.proofs.Common.{◌≡◌, ◌≤◌, take}
use Rattle.message_shown.specs.Worded.{number_of}
use Rattle.message_shown.proofs.worded.number_of.Given as goal

abbrev pub invariant-loop-digit : goal.invariant-loop-digit
invariant-loop-digit l = (l.number ≡ number_of (take l.digit-index l.digits)) × (l.number ≤ 9999)
