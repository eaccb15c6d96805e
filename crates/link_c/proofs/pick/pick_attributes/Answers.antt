use Rattle.std.proofs.Common.{arith, sym, subst}
use Rattle.std.specs.Prelude.{Err}
use Rattle.std.proofs.lemmas.Result.{on_ok_weaker, err_from_is_err_and, IfErr-weaker}
use Rattle.link_c.specs.Picks.{IsPicked}
use Rattle.link_c.proofs.Picking.{ends, goes_on, stops}
use Rattle.link_c.proofs.pick.pick_attributes.Goals as goal

pub returns-in_err-next_attribute : goal.returns-in_err-next_attribute
returns-in_err-next_attribute c =
    let stopped = stops c.args.list.now c.loop-at.at _ _ _ _ c.in_err-next_attribute.field-0.0 c.args.found.now
    c.loop-at.found c.in_err-next_attribute.was c.next_attribute.ensures c.loop-at.invariant in
    let p = err_from_is_err_and c.from_residual.result c.from_residual.ensures.1 in
    rw (p.1, p.2) stopped

pub loop-at-preserved : goal.loop-at-preserved
loop-at-preserved c =
    goes_on c.args.list.now c.loop-at.at _ _ _ _ _ c.args.found.now c.loop-at.found _
    (omega (arith, c.loop-at-test.true)) c.in_ok-next_attribute.was c.next_attribute.ensures c.loop-at.invariant
    c.keep.ensures

pub returns : goal.returns
returns c =
    ends c.args.list.now c.loop-at.at c.args.found.now c.loop-at.found (omega (arith, c.loop-at-test.false))
    c.loop-at.invariant
