use Rattle.std.proofs.Common.{length, ◌-◌, ◌≡◌, ◌++◌, ◌≤◌, take, drop}
use Rattle.link_state.specs.Thinned.{thinned}
use Rattle.link_state.proofs.thin.thin_list.Given as goal

-- what is left so far stands in front, and what begins at the place is as it was
abbrev pub invariant-loop-at : goal.invariant-loop-at
invariant-loop-at g l =
    let level = g.L.Thinned.level in
    record {
      within : l.at ≤ length l.list;
      behind : l.to ≤ l.at;
      same_size : length l.list ≡ length l.fn.list;
      so_far : take l.to l.list ++ thinned level (drop l.at l.list) ≡ thinned level l.fn.list;
    }

abbrev pub decreases-loop-at : goal.decreases-loop-at
decreases-loop-at g l = length l.initial.list - l.at
