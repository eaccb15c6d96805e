use Rattle.std.proofs.Common.{length}
use Rattle.link_view.proofs.Searching.{IsEnd, AllHold}
use Rattle.link_view.proofs.sought.last_each.Given as goal

-- each number's last frame was found in front of the rest, or is found in it
abbrev pub invariant-loop-rest : goal.invariant-loop-rest
invariant-loop-rest l = IsEnd l.list l.rest × AllHold l.list l.rest l.fn.sought l.sought

abbrev pub decreases-loop-rest : goal.decreases-loop-rest
decreases-loop-rest l = length l.rest
