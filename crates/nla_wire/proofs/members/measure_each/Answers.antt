use Rattle.std.proofs.Common.{rules, ◌≡◌, arith, false}
use Rattle.nla_wire.specs.Frames.{number}
use Rattle.nla_wire.specs.Items.{items}
use Rattle.nla_wire.specs.Grammar.{drops, members}
use Rattle.nla_wire.specs.Canon.{canon}
use Rattle.nla_wire.proofs.Written.{weighing_starts, weighing_on, weighing_stops, weighing_passes, weighs_frame}
use Rattle.nla_wire.proofs.Written.{weighs_none}
use Rattle.nla_wire.proofs.Selected.{selected, selects, read_selected}
use Rattle.nla_wire.proofs.members.measure_each.Goals as goal

pub loop-item-init : goal.loop-item-init
loop-item-init g c =
    let left : c.into_iter-item-iterator.result ≡ items c.args.bytes.now = cc in
    let place = g.P.Place.grammar c.args.place.now in
    let picks = g.P.Place.picks c.args.place.now in
    weighing_starts place.reads (λ v. canon (g.V.Nla.frame v)) g.V.Nla.fits
    ((members picks place).reads c.args.bytes.now) (selected picks c.into_iter-item-iterator.result)
    (rw left (read_selected place picks c.args.bytes.now))

pub returns-in_default-measure : goal.returns-in_default-measure
returns-in_default-measure g c =
    let picks = g.P.Place.picks c.args.place.now in
    let kept : drops picks (number c.in-Ok.frame) ≡ false =
    search (rules, c.if-not-drops.true, c.drops.ensures, c.kind.ensures) in
    let steps = selects picks c.in-Ok.frame c.loop-item.item-iterator c.next.new.self
    (rw c.in-Ok.is at c.in-Some.ensures.steps) kept in
    let place = g.P.Place.grammar c.args.place.now in
    weighing_stops place.reads (λ v. canon (g.V.Nla.frame v)) g.V.Nla.fits
    ((members picks place).reads c.args.bytes.now) (selected picks c.loop-item.item-iterator) c.loop-item.len
    c.loop-item.invariant c.in-Ok.frame (selected picks c.next.new.self) steps
    (weighs_none (λ v. (g.V.Nla.frame v).payload) (λ v. canon (g.V.Nla.frame v)) g.V.Nla.fits
    (place.reads c.in-Ok.frame) (rw c.in_default-measure.is at c.measure.ensures))

pub returns-in_default-add_len : goal.returns-in_default-add_len
returns-in_default-add_len g c =
    let picks = g.P.Place.picks c.args.place.now in
    let kept : drops picks (number c.in-Ok.frame) ≡ false =
    search (rules, c.if-not-drops.true, c.drops.ensures, c.kind.ensures) in
    let steps = selects picks c.in-Ok.frame c.loop-item.item-iterator c.next.new.self
    (rw c.in-Ok.is at c.in-Some.ensures.steps) kept in
    let place = g.P.Place.grammar c.args.place.now in
    weighing_passes place.reads (λ v. canon (g.V.Nla.frame v)) g.V.Nla.fits
    ((members picks place).reads c.args.bytes.now) (selected picks c.loop-item.item-iterator) c.loop-item.len
    c.loop-item.invariant c.in-Ok.frame (selected picks c.next.new.self) c.padded_len.result steps
    (weighs_frame g.V.Nla.frame g.V.Nla.fits (place.reads c.in-Ok.frame) c.in-Some-measure.value c.padded_len.result
    (rw c.in-Some-measure.is at c.measure.ensures) c.padded_len.ensures) c.in_default-add_len.ensures

pub loop-item-preserved-then-not-drops : goal.loop-item-preserved-then-not-drops
loop-item-preserved-then-not-drops g c =
    let picks = g.P.Place.picks c.args.place.now in
    let kept : drops picks (number c.in-Ok.frame) ≡ false =
    search (rules, c.if-not-drops.true, c.drops.ensures, c.kind.ensures) in
    let steps = selects picks c.in-Ok.frame c.loop-item.item-iterator c.next.new.self
    (rw c.in-Ok.is at c.in-Some.ensures.steps) kept in
    let place = g.P.Place.grammar c.args.place.now in
    weighing_on place.reads (λ v. canon (g.V.Nla.frame v)) g.V.Nla.fits
    ((members picks place).reads c.args.bytes.now) (selected picks c.loop-item.item-iterator) c.loop-item.len
    c.loop-item.invariant c.in-Ok.frame (selected picks c.next.new.self) c.padded_len.result c.in-Some-add_len.more
    steps (weighs_frame g.V.Nla.frame g.V.Nla.fits (place.reads c.in-Ok.frame) c.in-Some-measure.value
    c.padded_len.result (rw c.in-Some-measure.is at c.measure.ensures) c.padded_len.ensures)
    c.in-Some-add_len.ensures.1 (omega (arith, c.in-Some-add_len.ensures.0, c.in-Some-add_len.ensures.1))
