use Rattle.std.proofs.Common.{◌+◌, ◌-◌, ◌≡◌, ◌<◌, ◌≤◌, ℕ, true, suc}
use Rattle.std.specs.Prelude.{None}
use Rattle.link_vlans.specs.Pieces.{said_of, with_run, with_vlans}
use Rattle.link_vlans.specs.Runs.{are_apart}
use Rattle.link_vlans.proofs.Say.{vlans_from}
use Rattle.link_vlans.proofs.pieces.cut.Given as goal

abbrev pub invariant-loop-first : goal.invariant-loop-first
invariant-loop-first l = record {
  cut : with_vlans l.pieces.items (vlans_from l.own.said l.first (suc l.last - l.first)) l.others
      ≡ with_run l.fn.pieces.items l.own l.others;
  apart : are_apart None l.left ≡ true;
  same : (n : ℕ) → l.first ≤ n → said_of l.left n ≡ said_of l.others n;
  behind : (n : ℕ) → l.last < n → said_of l.left n ≡ said_of l.others n;
}

abbrev pub decreases-loop-first : goal.decreases-loop-first
decreases-loop-first l = l.last + 1 - l.first
