use Rattle.std.proofs.Common.{◌∙◌, ap}
use Rattle.frame_diff.specs.Texts.{times_in}
use Rattle.frame_diff.proofs.EachTold.{one_more}
use Rattle.frame_diff.proofs.each.add_one.Goals as goal

pub returns : goal.returns
returns c =
    one_more c.args.text.items c.count_of-before.result c.args.counts.now c.insert.new.self
    c.in_ok-insert.ensures.updates
    (c.count_of-before.ensures ∙ ap (times_in c.args.counts.now) c.as_slice.ensures.value)
