use Rattle.frame_shown.proofs.Elements.{next_element}
use Rattle.frame_shown.proofs.value.style.show_elements.Goals as goal

pub loop-preserved : goal.loop-preserved
loop-preserved c =
    next_element c.args.plain c.size-size.result c.min.result c.count-end.result c.loop.counter c.loop.rest.now
    c.split_at.result.0.now c.split_at.result.1.now c.loop.page c.show_spelled.new.page _ c.size-size.ensures
    c.min.ensures c.split_at.ensures.front c.split_at.ensures.back c.loop-test.true c.in_ok-show_spelled.ensures
    c.loop.invariant
