use Rattle.std.proofs.Common.{◌≡◌, ◌-◌, ◌≤◌, ℕ, true, drop, length}
use Rattle.std.specs.Prelude.{None}
use Rattle.link_vlans.specs.Pieces.{said_of}
use Rattle.link_vlans.specs.Runs.{are_apart}
use Rattle.link_vlans.proofs.pieces.skip.Given as goal

abbrev pub invariant-loop-place : goal.invariant-loop-place
invariant-loop-place l = record {
  within : l.place ≤ length l.runs;
  apart : are_apart None (drop l.place l.runs) ≡ true;
  same : (n : ℕ) → l.vid ≤ n → said_of (drop l.place l.runs) n ≡ said_of l.runs n;
}

abbrev pub decreases-loop-place : goal.decreases-loop-place
decreases-loop-place l = length l.runs - l.place
