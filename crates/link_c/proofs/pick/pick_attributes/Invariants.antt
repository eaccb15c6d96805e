use Rattle.std.proofs.Common.{length, ◌-◌, ◌≡◌, List}
use Rattle.link_c.specs.Picks.{Stand, picked}
use Rattle.link_c.specs.declared.list.Attribute.{Attribute}
use Rattle.link_c.proofs.pick.pick_attributes.Given as goal

-- what was found so far is what was picked of the attributes in front of the place
abbrev pub invariant-loop-at : goal.invariant-loop-at
invariant-loop-at l = (all : List Attribute) × Stand l.list 0 l.at all × (l.found ≡ picked all l.fn.found)

abbrev pub decreases-loop-at : goal.decreases-loop-at
decreases-loop-at l = length l.list - l.at
