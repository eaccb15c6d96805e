use Rattle.std.proofs.Common.{◌≡◌, ◌++◌, map, take, drop}
use Rattle.link_c.specs.Picks.{kept}
use Rattle.link_c.proofs.pick.keep.Given as goal

abbrev pub invariant-loop-place : goal.invariant-loop-place
invariant-loop-place l =
    l.found ≡ map (kept l.attribute) (take l.place-index l.fn.found) ++ drop l.place-index l.fn.found
