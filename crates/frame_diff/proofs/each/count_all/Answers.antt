use Rattle.std.proofs.Common.{◌≡◌, ◌<◌, ◌≤◌, ◌∙◌, ap, arith, length, map, rules}
use Rattle.frame_diff.specs.Each.{one_shown}
use Rattle.frame_diff.specs.Texts.{times}
use Rattle.frame_diff.proofs.EachTold.{counted_all, counted_on, few_counted}
use Rattle.frame_diff.proofs.each.count_all.Goals as goal

pub add_one-requires : goal.add_one-requires
add_one-requires g c =
    let f = one_shown g.D.Depth.nest c.args.list.now in
    let vs = c.as_slice-value-items.result.now in
    let i = c.loop-value.value-index in
    let w = c.value-item.result in
    let within : i < length vs = search rules in
    let few = few_counted f vs i w w within c.value-item.is c.in_ok-text.text.items c.loop-value.counts
    c.in_ok-text.ensures (c.loop-value.invariant (f w)) in
    let size : length vs ≡ length c.args.list.now.values.items = ap length c.as_slice-value-items.ensures.value in
    let values = c.args.list.now.values in
    omega (arith, few, size, values.ok.0, values.ok.1, values.small)

pub loop-value-preserved : goal.loop-value-preserved
loop-value-preserved g c = λ v.
    let f = one_shown g.D.Depth.nest c.args.list.now in
    let vs = c.as_slice-value-items.result.now in
    let i = c.loop-value.value-index in
    let w = c.value-item.result in
    let within : i < length vs = search rules in
    counted_on f vs i w w within c.value-item.is c.in_ok-text.text.items c.loop-value.counts c.add_one.new.counts v
    (times v (map f vs)) c.in_ok-text.ensures c.in_ok-add_one.ensures (c.loop-value.invariant v)

pub returns : goal.returns
returns g c = λ v.
    let f = one_shown g.D.Depth.nest c.args.list.now in
    let vs = c.as_slice-value-items.result.now in
    let i = c.loop-value.value-index in
    let past : length vs ≤ i = search rules in
    counted_all f vs i c.loop-value.counts v (times v (map f vs)) past (c.loop-value.invariant v)
    ∙ ap (λ us. times v (map f us)) c.as_slice-value-items.ensures.value
