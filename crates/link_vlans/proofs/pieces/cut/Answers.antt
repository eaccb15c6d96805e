use Rattle.std.proofs.Common.{◌≤◌, ◌+◌, ◌-◌, ◌∙◌, suc, sym, ap, arith}
use Rattle.link_vlans.specs.Pieces.{with_vlans}
use Rattle.link_vlans.proofs.Cuts.{part_on}
use Rattle.link_vlans.proofs.Say.{vlans_from}
use Rattle.link_vlans.proofs.pieces.cut.Goals as goal

pub loop-first-preserved : goal.loop-first-preserved
loop-first-preserved c =
    let said = c.args.own.said in
    let others = c.args.others.now in
    let first = c.loop-first.first in
    let end = c.min-end.result in
    let last = c.from-last.result in
    let low : first ≤ end = omega arith in
    let high : end ≤ last = omega arith in
    record {
      cut = ap (λ ps. with_vlans ps (vlans_from said (end + 1) (suc last - (end + 1))) others)
          c.in_ok-add_piece.ensures
          ∙ part_on said c.reach-beside.result.0 others first end last c.loop-first.pieces.items low high
          (λ n above below. sym (c.loop-first.invariant.same n above) ∙ sym (c.skip-left.ensures.same n above)
          ∙ c.reach-beside.ensures.same n above (omega arith))
          ∙ c.loop-first.invariant.cut;
      apart = c.skip-left.ensures.apart;
      same = λ n above. c.skip-left.ensures.same n (omega arith) ∙ c.loop-first.invariant.same n (omega arith);
      behind = λ n above. c.skip-left.ensures.same n (omega arith) ∙ c.loop-first.invariant.same n (omega arith);
    }
