use Rattle.std.proofs.Common.{◌≡◌, ◌<◌, ◌≤◌, ◌∙◌, ◌++◌, ap, length, map, rules}
use Rattle.std.specs.Prelude.{None, codes}
use Rattle.shown.specs.Drafts.{Draft, with_members}
use Rattle.frame_shown.specs.Items.{objects}
use Rattle.frame_diff.specs.Each.{one_shown}
use Rattle.frame_diff.specs.Items.{each_items, leaf_items}
use Rattle.frame_diff.proofs.EachTold.{all_ended, all_on}
use Rattle.frame_diff.proofs.each.tell_all.Goals as goal

pub loop-value-preserved : goal.loop-value-preserved
loop-value-preserved g c =
    let f = one_shown g.D.Depth.nest c.args.own.now in
    let vs = c.as_slice-value-items.result.now in
    let i = c.loop-value.value-index in
    let w = c.value-item.result in
    let within : i < length vs = search rules in
    let path : c.as_str.result.now ≡ c.args.path.now ++ codes "[]" = search rules in
    let all : Draft = with_members (objects (each_items c.args.side c.args.path.now (map f vs))) c.args.page.now in
    all_on f vs i w w within c.value-item.is c.args.side c.args.path.now c.loop-value.page c.tell_leaf.new.page all
    (c.in_ok-tell_leaf.ensures
    ∙ ap (λ p. with_members (objects (leaf_items c.args.side p (f w) None)) c.loop-value.page) path)
    c.loop-value.invariant

pub returns : goal.returns
returns g c =
    let f = one_shown g.D.Depth.nest c.args.own.now in
    let vs = c.as_slice-value-items.result.now in
    let i = c.loop-value.value-index in
    let past : length vs ≤ i = search rules in
    let all : Draft = with_members (objects (each_items c.args.side c.args.path.now (map f vs))) c.args.page.now in
    all_ended f vs i c.args.side c.args.path.now c.loop-value.page all past c.loop-value.invariant
    ∙ ap (λ us. with_members (objects (each_items c.args.side c.args.path.now (map f us))) c.args.page.now)
    c.as_slice-value-items.ensures.value
