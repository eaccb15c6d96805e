use Rattle.link_msg.proofs.Stays.{of_accepted}
use Rattle.link_msg.proofs.lenient_encoding.canonical_lenient_within.Goals as goal

pub returns-in-Ok : goal.returns-in-Ok
returns-in-Ok c = let e = c.in-Ok.ensures in (e.0, of_accepted c.args.input.now e.0 e.1, e.2)

pub returns-in-NoRoom : goal.returns-in-NoRoom
returns-in-NoRoom c =
    let e = rw c.in-NoRoom.is at c.in-Err.ensures in
    (e.0, of_accepted c.args.input.now e.0 e.1, e.2, e.3, e.4)
