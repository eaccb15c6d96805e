use Rattle.std.proofs.Common.{sym, arith}
use Rattle.link_view.proofs.Searching.{begins_with, goes_on, stops, ends}
use Rattle.link_view.proofs.sought.last_each.Goals as goal

pub loop-rest-init : goal.loop-rest-init
loop-rest-init c = begins_with c.args.list.now c.args.sought.now c.clear.new.sought c.clear.ensures

pub loop-rest-preserved : goal.loop-rest-preserved
loop-rest-preserved c =
    goes_on c.args.list.now c.loop-rest.rest.now c.after-rest.result.now c.in-Ok.frame c.kind.result c.length.result
    c.nla_align.result c.args.sought.now c.loop-rest.sought c.keep.new.sought
    (grind (arith, c.loop-rest-test.ensures)) (sym c.in-Ok.ensures) c.kind.ensures c.length.ensures c.nla_align.ensures
    c.after-rest.ensures c.loop-rest.invariant c.keep.ensures

pub returns-in-Err : goal.returns-in-Err
returns-in-Err c =
    stops c.args.list.now c.loop-rest.rest.now c.in-Err.fault c.args.sought.now c.loop-rest.sought
    (grind (arith, c.loop-rest-test.ensures)) (sym c.in-Err.ensures) c.loop-rest.invariant

pub returns : goal.returns
returns c =
    ends c.args.list.now c.loop-rest.rest.now c.args.sought.now c.loop-rest.sought
    (grind (arith, c.loop-rest-test.ensures)) c.loop-rest.invariant
