use Rattle.std.proofs.Common.{◌≡◌, ◌<◌, ◌∙◌, None, arith, length, rules, sym}
use Rattle.frame_diff.specs.Keyed.{numbers_now}
use Rattle.frame_diff.specs.Labels.{are_ascending}
use Rattle.frame_diff.proofs.Labelled.{ascends, ascends_not, ascends_over}
use Rattle.frame_diff.proofs.keyed.are_ascending.Goals as goal

pub returns-then-not-is_above : goal.returns-then-not-is_above
returns-then-not-is_above g c =
    let within : c.loop-one.one-index < length c.args.values.now = search rules in
    ascends_not c.loop-one.before c.args.values.now c.loop-one.one-index _ c.one-item.result
    (are_ascending None (numbers_now c.args.values.now)) within c.one-item.is
    (sym c.is_above.ensures ∙ c.if-not-is_above.true) c.loop-one.invariant

pub loop-one-preserved : goal.loop-one-preserved
loop-one-preserved g c =
    let within : c.loop-one.one-index < length c.args.values.now = search rules in
    ascends c.loop-one.before c.args.values.now c.loop-one.one-index _ c.one-item.result
    (are_ascending None (numbers_now c.args.values.now)) within c.one-item.is
    (sym c.is_above.ensures ∙ c.if-not-is_above.false) c.loop-one.invariant

pub returns : goal.returns
returns g c =
    let over : c.loop-one.one-index ≡ length c.args.values.now =
    omega (arith, c.loop-one.auto.one-index-end, c.loop-one-test.false) in
    ascends_over c.loop-one.before c.args.values.now c.loop-one.one-index
    (are_ascending None (numbers_now c.args.values.now)) over c.loop-one.invariant
