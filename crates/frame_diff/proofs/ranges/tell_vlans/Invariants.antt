use Rattle.std.proofs.Common.{◌≡◌, drop}
use Rattle.std.specs.List.{flat_map}
use Rattle.shown.specs.Drafts.{with_members}
use Rattle.frame_shown.specs.Items.{objects}
use Rattle.frame_diff.specs.Items.{piece_items}
use Rattle.frame_diff.proofs.ranges.tell_vlans.Given as goal

abbrev pub invariant-loop-piece : goal.invariant-loop-piece
invariant-loop-piece l =
    with_members (objects (flat_map (piece_items l.side l.path) (drop l.piece-index l.piece-items))) l.page
    ≡ with_members (objects (flat_map (piece_items l.side l.path) l.piece-items)) l.fn.page
