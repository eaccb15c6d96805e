use Rattle.std.proofs.Common.{◌≡◌, ◌+◌, ◌<◌, ◌^◌, length}
use Rattle.link_msg.specs.Told.{told, span}
use Rattle.link_msg.proofs.refusal.next_refused.Given as goal

-- the refusals that are left are those of the beginning
abbrev pub invariant-loop-item : goal.invariant-loop-item
invariant-loop-item l = record {
  room : l.at + span l.frames < 2 ^ 64;
  same : told l.family l.at l.frames ≡ told l.fn.family l.fn.at l.fn.frames;
}

abbrev pub decreases-loop-item : goal.decreases-loop-item
decreases-loop-item l = length l.frames
