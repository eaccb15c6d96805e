use Rattle.std.proofs.Common.{◌≡◌, ◌++◌, map, take, drop}
use Rattle.link_view.specs.Search.{kept}
use Rattle.link_view.proofs.sought.keep.Given as goal

abbrev pub invariant-loop-place : goal.invariant-loop-place
invariant-loop-place l =
    l.sought ≡ map (kept l.number l.left) (take l.place-index l.fn.sought) ++ drop l.place-index l.fn.sought
