use Rattle.std.proofs.Common.{◌+◌, ap, arith, drop, get_or, refl}
use Rattle.std.specs.Prelude.{None}
use Rattle.std.proofs.lemmas.List.{drop_more}
use Rattle.link_vlans.specs.Pieces.{pieces_of, vlans_of, with_vlans}
use Rattle.link_vlans.specs.declared.run.Run.{Run}
use Rattle.link_vlans.proofs.Cuts.{run_on}
use Rattle.link_vlans.proofs.pieces.pieces_of.Goals as goal

pub loop-run-init : goal.loop-run-init
loop-run-init c = record {
  pieces = ap (λ ps. with_vlans ps (vlans_of c.args.own.now) c.args.others.now) c.new-pieces.ensures.items;
  apart = c.requires.others;
  beside = (None, c.requires.own, λ n below. refl);
}

pub loop-run-preserved : goal.loop-run-preserved
loop-run-preserved c =
    let own = c.args.own.now in
    let others = c.args.others.now in
    let place = c.loop-run.run-index in
    let none : Run = record { first = 0; last = 0; said = record { flags = 0; ahead = None } } in
    let on = run_on (drop place own) (drop (place + 1) own) c.loop-run.left.now c.in_ok-left.left.now others
    (get_or own place none) c.loop-run.pieces.items c.cut.new.pieces.items (pieces_of own others)
    (drop_more own place none (omega arith)) c.in_ok-left.ensures.cut c.loop-run.invariant.beside
    c.in_ok-left.ensures.same c.loop-run.invariant.pieces in
    record { pieces = on.0; apart = c.in_ok-left.ensures.apart; beside = on.1 }
