use Rattle.link_msg.specs.Nested.{Accepts}
use Rattle.link_msg.proofs.Walking.{Walking}
use Rattle.link_msg.proofs.walk.first_fault.Given as goal

abbrev pub invariant-loop-item : goal.invariant-loop-item
invariant-loop-item g l = Walking (Accepts (g.P.Place.picks l.place) (g.P.Place.grammar l.place)) l.bytes
    l.item-iterator l.at
