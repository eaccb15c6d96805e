use Rattle.nla_wire.specs.Grammar.{members}
use Rattle.nla_wire.specs.Canon.{canon}
use Rattle.nla_wire.proofs.Written.{Rewriting}
use Rattle.nla_wire.proofs.Selected.{selected}
use Rattle.nla_wire.proofs.members.write_each.Given as goal

abbrev pub invariant-loop-item : goal.invariant-loop-item
invariant-loop-item g l =
    Rewriting (g.P.Place.grammar l.place).reads (λ v. canon (g.V.Nla.frame v)) g.V.Nla.fits
    ((members (g.P.Place.picks l.place) (g.P.Place.grammar l.place)).reads l.bytes)
    (selected (g.P.Place.picks l.place) l.item-iterator) l.at l.initial.out l.out
