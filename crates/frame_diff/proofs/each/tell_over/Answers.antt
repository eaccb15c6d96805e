use Rattle.std.proofs.Common.{◌≡◌, ◌<◌, ◌≤◌, ◌∙◌, ◌++◌, ◌∷◌, [], ap, length, map, refl, rules}
use Rattle.std.specs.Prelude.{None, codes, cond, nat_lt}
use Rattle.shown.specs.Drafts.{Draft, with_members}
use Rattle.frame_shown.specs.Items.{objects}
use Rattle.frame_diff.specs.Differences.{text_of}
use Rattle.frame_diff.specs.Each.{each_shown, one_shown}
use Rattle.frame_diff.specs.Items.{each_items, leaf_items}
use Rattle.frame_diff.specs.Texts.{left_over, times_in}
use Rattle.frame_diff.proofs.EachTold.{left_first, left_on, over_ended, over_on}
use Rattle.frame_diff.proofs.each.tell_over.Goals as goal

pub loop-value-init : goal.loop-value-init
loop-value-init g c =
    ([], left_first c.in_ok-counts.counts (each_shown g.D.Depth.nest c.args.other.now) c.in_ok-counts.ensures, refl)

pub loop-value-preserved : goal.loop-value-preserved
loop-value-preserved g c =
    let f = one_shown g.D.Depth.nest c.args.own.now in
    let ws = each_shown g.D.Depth.nest c.args.other.now in
    let vs = c.as_slice-value-items.result.now in
    let i = c.loop-value.value-index in
    let before = c.loop-value.invariant.0 in
    let counts = c.loop-value.counts in
    let w = c.value-item.result in
    let within : i < length vs = search rules in
    let path : c.as_str.result.now ≡ c.args.path.now ++ codes "[]" = search rules in
    let all : Draft = with_members (objects (each_items c.args.side c.args.path.now (left_over ws (map f vs))))
    c.args.page.now in (
      f w ∷ before,
      left_on f vs i w w within c.value-item.is ws before counts c.loop-value.invariant.1 c.tell_one.new.counts
          c.in_ok-tell_one.ensures.left,
      over_on f vs i w w within c.value-item.is ws before counts c.loop-value.invariant.1 c.args.side c.args.path.now
          c.loop-value.page c.tell_one.new.page all
          (c.in_ok-tell_one.ensures.told
          ∙ ap (λ p. with_members (objects (cond (nat_lt 0 (times_in counts (text_of (f w)))) []
          (leaf_items c.args.side p (f w) None))) c.loop-value.page) path)
          c.loop-value.invariant.2,
    )

pub returns : goal.returns
returns g c =
    let f = one_shown g.D.Depth.nest c.args.own.now in
    let ws = each_shown g.D.Depth.nest c.args.other.now in
    let vs = c.as_slice-value-items.result.now in
    let i = c.loop-value.value-index in
    let past : length vs ≤ i = search rules in
    let all : Draft = with_members (objects (each_items c.args.side c.args.path.now (left_over ws (map f vs))))
    c.args.page.now in
    over_ended f vs i ws c.loop-value.invariant.0 c.args.side c.args.path.now c.loop-value.page all past
    c.loop-value.invariant.2
    ∙ ap (λ us. with_members (objects (each_items c.args.side c.args.path.now (left_over ws (map f us))))
    c.args.page.now) c.as_slice-value-items.ensures.value
