use Rattle.std.proofs.Common.{◌≡◌, ◌+◌, ◌-◌, ◌∙◌, ap, arith, sym}
use Rattle.frame_diff.specs.Texts.{times_in}
use Rattle.frame_diff.proofs.EachTold.{none_fewer, one_fewer}
use Rattle.frame_diff.proofs.each.take_one.Goals as goal

pub returns-then-count-eq0-clause-left : goal.returns-then-count-eq0-clause-left
returns-then-count-eq0-clause-left c =
    let is = c.count_of-count.ensures ∙ ap (times_in c.args.counts.now) c.as_slice.ensures.value in
    none_fewer c.args.text.items c.args.counts.now (sym is ∙ c.if-count-eq0.true)

pub returns-clause-left : goal.returns-clause-left
returns-clause-left c =
    let is = c.count_of-count.ensures ∙ ap (times_in c.args.counts.now) c.as_slice.ensures.value in
    let more : c.count_of-count.result - 1 + 1 ≡ c.count_of-count.result = omega (arith, c.if-count-eq0.false) in
    one_fewer c.args.text.items (c.count_of-count.result - 1) c.args.counts.now c.insert.new.self
    c.in_ok-insert.ensures.updates (more ∙ is)
