use Rattle.std.proofs.Common.{length, ◌-◌, ◌≡◌, ◌++◌, ◌≤◌, take, drop}
use Rattle.link_state.specs.Cleared.{filled}
use Rattle.link_state.proofs.walk.fill_list.Given as goal

-- what stands before the place is filled, and what begins at it is as it was
abbrev pub invariant-loop-at : goal.invariant-loop-at
invariant-loop-at g l =
    let by = g.L.Listed.byte in
    let level = g.L.Listed.level l.of in
    record {
      within : l.at ≤ length l.list;
      same_size : length l.list ≡ length l.fn.list;
      so_far : take l.at l.list ++ filled by level (drop l.at l.list) ≡ filled by level l.fn.list;
    }

abbrev pub decreases-loop-at : goal.decreases-loop-at
decreases-loop-at g l = length l.initial.list - l.at
