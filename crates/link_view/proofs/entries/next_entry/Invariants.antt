use Rattle.std.proofs.Common.{◌≡◌, length}
use Rattle.link_view.specs.Entries.{picked_items}
use Rattle.link_view.proofs.entries.next_entry.Given as goal

-- the entries that are left are those of the beginning
abbrev pub invariant-loop-item : goal.invariant-loop-item
invariant-loop-item g l = picked_items l.left ≡ picked_items l.fn.left

abbrev pub decreases-loop-item : goal.decreases-loop-item
decreases-loop-item g l = length l.left
