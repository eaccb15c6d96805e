use Rattle.std.proofs.Common.{Option, subst, sym}
use Rattle.frame_diff.specs.Repeated.{GoesOnAt, IsBeside, place_by}
use Rattle.frame_diff.specs.declared.again.Named.{Named}
use Rattle.frame_diff.proofs.Repeated.{stands_beside}
use Rattle.frame_diff.proofs.again.beside_again.Goals as goal

pub returns-in-Some-clause-place : goal.returns-in-Some-clause-place
returns-in-Some-clause-place c nest inner is_state place goes =
    subst (λ (e : Option Named). IsBeside nest inner is_state c.args.others place e c.next_again.result.0
    × GoesOnAt nest inner is_state c.args.others (place_by e place) c.next_again.result.1.now)
    (sym c.in-Some.is)
    (stands_beside nest inner is_state c.args.others place c.args.there.now
    c.next_again.result.1.now c.in-Some.field-0 c.next_again.result.0 goes
    (c.next_again.ensures.cut nest inner is_state)
    (c.next_again.ensures.last nest inner is_state))
