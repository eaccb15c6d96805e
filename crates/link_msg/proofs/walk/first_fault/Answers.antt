use Rattle.std.proofs.Common.{rules, ◌≡◌, arith, sym, ◌∙◌, ◌+◌, true, false}
use Rattle.nla_wire.specs.Frames.{number}
use Rattle.nla_wire.specs.Items.{items}
use Rattle.nla_wire.specs.Grammar.{drops}
use Rattle.nla_wire.proofs.Front.{all_bytes}
use Rattle.link_msg.specs.Nested.{Accepts, Refuses}
use Rattle.link_msg.proofs.Walking.{Walking, walk_starts, walk_ends, walk_faults, walk_frame, walk_refuses, walk_on}
use Rattle.link_msg.proofs.Walking.{frame_fits, told_err, told_ok, drop_accepted, read_accepted, read_refused}
use Rattle.link_msg.proofs.walk.first_fault.Goals as goal
use Rattle.link_msg.proofs.walk.first_fault.Goals.{else-not-drops-via-then-not-drops+else-is_err}
use Rattle.link_msg.proofs.walk.first_fault.Goals.{else-not-drops-via-else-not-drops}

pub loop-item-init : goal.loop-item-init
loop-item-init g c =
    let accepts = Accepts (g.P.Place.picks c.args.place.now) (g.P.Place.grammar c.args.place.now) in
    let refuses = Refuses (g.P.Place.picks c.args.place.now) (g.P.Place.grammar c.args.place.now) in
    let left : c.into_iter-item-iterator.result ≡ items c.args.bytes.now = cc in
    walk_starts accepts refuses c.args.bytes.now c.into_iter-item-iterator.result
    (all_bytes c.args.bytes.now (λ i. omega (arith, c.type_inv.bytes i))) left

pub returns-in_default-clause-first : goal.returns-in_default-clause-first
returns-in_default-clause-first g c =
    let accepts = Accepts (g.P.Place.picks c.args.place.now) (g.P.Place.grammar c.args.place.now) in
    let refuses = Refuses (g.P.Place.picks c.args.place.now) (g.P.Place.grammar c.args.place.now) in
    let steps = rw c.in_default.is at c.in-Some.ensures.steps in (
      c.in_default.field-0.cause,
      walk_faults accepts refuses c.args.bytes.now c.loop-item.item-iterator c.loop-item.at c.loop-item.invariant
          c.in_default.field-0.cause c.next.new.self steps,
    )

pub returns-then-is_err-clause-first : goal.returns-then-is_err-clause-first
returns-then-is_err-clause-first g c =
    let picks = g.P.Place.picks c.args.place.now in
    let place = g.P.Place.grammar c.args.place.now in
    let steps = rw c.in-Ok.is at c.in-Some.ensures.steps in
    let kept : drops picks (number c.in-Ok.frame) ≡ false =
    search (rules, c.if-not-drops.true, c.drops.ensures, c.kind.ensures) in
    let told = told_err (place.reads c.in-Ok.frame) c.check.result
    (sym c.is_err.ensures.value ∙ c.if-is_err.true) c.check.ensures in
    let one = walk_frame (Accepts picks place) (Refuses picks place) c.args.bytes.now c.loop-item.item-iterator
    c.loop-item.at c.loop-item.invariant c.in-Ok.frame c.next.new.self steps in (
      told.0,
      walk_refuses (Accepts picks place) (Refuses picks place) c.args.bytes.now c.loop-item.item-iterator
          c.loop-item.at c.loop-item.invariant c.in-Ok.frame c.next.new.self steps told.0
          (read_refused place (g.met.P.Place.agrees c.args.place.now) c.in-Ok.frame one picks told.0 kept told.1),
    )

pub returns-then-is_err-clause-inside : goal.returns-then-is_err-clause-inside
returns-then-is_err-clause-inside g c =
    let steps = rw c.in-Ok.is at c.in-Some.ensures.steps in
    frame_fits c.args.bytes.now c.loop-item.item-iterator c.loop-item.at c.loop-item.invariant.reached c.in-Ok.frame
    c.next.new.self steps

pub loop-item-preserved : goal.loop-item-preserved
loop-item-preserved g c =
    let picks = g.P.Place.picks c.args.place.now in
    let place = g.P.Place.grammar c.args.place.now in
    let steps = rw c.in-Ok.is at c.in-Some.ensures.steps in
    let size = rw c.value.ensures.value at c.padded_len-at.ensures in
    let on : Accepts picks place c.in-Ok.frame
    → Walking (Accepts picks place) c.args.bytes.now c.next.new.self (c.loop-item.at + c.padded_len-at.result) =
    λ fine. walk_on (Accepts picks place) (Refuses picks place) c.args.bytes.now c.loop-item.item-iterator
    c.loop-item.at c.loop-item.invariant c.in-Ok.frame c.next.new.self steps fine c.padded_len-at.result size in
    elim c.else-not-drops.branch [
      | else-not-drops-via-then-not-drops+else-is_err w ↦
          let told = told_ok (place.reads c.in-Ok.frame) w.check.result
          (sym w.is_err.ensures.value ∙ w.if-is_err.false) w.check.ensures in
          let one = walk_frame (Accepts picks place) (Refuses picks place) c.args.bytes.now c.loop-item.item-iterator
          c.loop-item.at c.loop-item.invariant c.in-Ok.frame c.next.new.self steps in
          on (read_accepted place (g.met.P.Place.agrees c.args.place.now) c.in-Ok.frame one picks told.0 told.1)
      | else-not-drops-via-else-not-drops w ↦
          let dropped : drops picks (number c.in-Ok.frame) ≡ true =
          search (rules, w.if-not-drops.false, c.drops.ensures, c.kind.ensures) in
          on (drop_accepted place picks c.in-Ok.frame dropped)
    ]

pub returns-clause-first : goal.returns-clause-first
returns-clause-first g c =
    let accepts = Accepts (g.P.Place.picks c.args.place.now) (g.P.Place.grammar c.args.place.now) in
    let refuses = Refuses (g.P.Place.picks c.args.place.now) (g.P.Place.grammar c.args.place.now) in
    walk_ends accepts refuses c.args.bytes.now c.loop-item.item-iterator c.loop-item.at c.loop-item.invariant
    c.in-None.ensures.steps.0
