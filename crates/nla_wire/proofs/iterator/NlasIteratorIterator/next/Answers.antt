use Rattle.std.proofs.Common.{sym, ◌∙◌, drop, length-drop, arith}
use Rattle.nla_wire.proofs.Front.{items_ended}
use Rattle.nla_wire.proofs.iterator.NlasIteratorIterator.next.Goals as goal

pub returns-then-self-clause-steps : goal.returns-then-self-clause-steps
returns-then-self-clause-steps c =
    let ended = sym c.self.view_is ∙ items_ended (drop c.self.inside.given c.self.inside.left.now)
    (omega (arith, length-drop c.self.inside.given c.self.inside.left.now)) in
    (ended, ended)
