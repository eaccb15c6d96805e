use Rattle.nla_wire.specs.Canon.{canon}
use Rattle.nla_wire.specs.Grammar.{members}
use Rattle.nla_wire.proofs.Written.{Weighing}
use Rattle.nla_wire.proofs.Selected.{selected}
use Rattle.nla_wire.proofs.members.measure_each.Given as goal

abbrev pub invariant-loop-item : goal.invariant-loop-item
invariant-loop-item g l =
    Weighing (g.P.Place.grammar l.place).reads (λ v. canon (g.V.Nla.frame v)) g.V.Nla.fits
    ((members (g.P.Place.picks l.place) (g.P.Place.grammar l.place)).reads l.bytes)
    (selected (g.P.Place.picks l.place) l.item-iterator) l.len
