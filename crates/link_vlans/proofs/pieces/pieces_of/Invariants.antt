use Rattle.std.proofs.Common.{◌≡◌, true, drop}
use Rattle.std.specs.Prelude.{None}
use Rattle.link_vlans.specs.Pieces.{pieces_of, vlans_of, with_vlans}
use Rattle.link_vlans.specs.Runs.{are_apart}
use Rattle.link_vlans.proofs.Cuts.{Beside}
use Rattle.link_vlans.proofs.pieces.pieces_of.Given as goal

abbrev pub invariant-loop-run : goal.invariant-loop-run
invariant-loop-run l = record {
  pieces : with_vlans l.pieces.items (vlans_of (drop l.run-index l.own)) l.others ≡ pieces_of l.own l.others;
  apart : are_apart None l.left ≡ true;
  beside : Beside (drop l.run-index l.own) l.left l.others;
}
