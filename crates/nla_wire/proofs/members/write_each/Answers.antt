use Rattle.std.proofs.Common.{rules, ◌≡◌, arith, false}
use Rattle.nla_wire.specs.Frames.{number}
use Rattle.nla_wire.specs.Items.{items}
use Rattle.nla_wire.specs.Grammar.{drops, members}
use Rattle.nla_wire.specs.Canon.{canon}
use Rattle.nla_wire.proofs.Written.{rewriting_starts, rewriting_on, rewriting_sum}
use Rattle.nla_wire.proofs.Selected.{selected, selects, read_selected}
use Rattle.nla_wire.proofs.members.write_each.Goals as goal

pub loop-item-init : goal.loop-item-init
loop-item-init g c =
    let left : c.into_iter-item-iterator.result ≡ items c.args.bytes.now = cc in
    let place = g.P.Place.grammar c.args.place.now in
    let picks = g.P.Place.picks c.args.place.now in
    rewriting_starts place.reads (λ v. canon (g.V.Nla.frame v)) g.V.Nla.fits
    ((members picks place).reads c.args.bytes.now) (selected picks c.into_iter-item-iterator.result) c.args.out.now
    (rw left (read_selected place picks c.args.bytes.now)) c.requires

pub overflow_add-at : goal.overflow_add-at
overflow_add-at g c =
    let picks = g.P.Place.picks c.args.place.now in
    let kept : drops picks (number c.in-Ok.frame) ≡ false =
    search (rules, c.if-not-drops.true, c.drops.ensures, c.kind.ensures) in
    let steps = selects picks c.in-Ok.frame c.loop-item.item-iterator c.next.new.self
    (rw c.in-Ok.is at c.in-Some.ensures.steps) kept in
    omega (
      arith,
      rewriting_sum (g.P.Place.grammar c.args.place.now).reads (λ v. canon (g.V.Nla.frame v)) g.V.Nla.fits
          ((members picks (g.P.Place.grammar c.args.place.now)).reads c.args.bytes.now)
          (selected picks c.loop-item.item-iterator) c.loop-item.at c.args.out.now c.loop-item.out
          c.loop-item.invariant c.in-Ok.frame (selected picks c.next.new.self) c.write-at.new.out
          c.write-at.result steps c.write-at.ensures,
    )

pub loop-item-preserved-then-not-drops : goal.loop-item-preserved-then-not-drops
loop-item-preserved-then-not-drops g c =
    let picks = g.P.Place.picks c.args.place.now in
    let kept : drops picks (number c.in-Ok.frame) ≡ false =
    search (rules, c.if-not-drops.true, c.drops.ensures, c.kind.ensures) in
    let steps = selects picks c.in-Ok.frame c.loop-item.item-iterator c.next.new.self
    (rw c.in-Ok.is at c.in-Some.ensures.steps) kept in
    rewriting_on (g.P.Place.grammar c.args.place.now).reads (λ v. canon (g.V.Nla.frame v)) g.V.Nla.fits
    ((members picks (g.P.Place.grammar c.args.place.now)).reads c.args.bytes.now)
    (selected picks c.loop-item.item-iterator) c.loop-item.at c.args.out.now c.loop-item.out
    c.loop-item.invariant c.in-Ok.frame (selected picks c.next.new.self) c.write-at.new.out
    c.write-at.result steps c.write-at.auto.out c.write-at.ensures
