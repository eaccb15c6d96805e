use Rattle.std.proofs.lemmas.Result.{on_ok_weaker}
use Rattle.frame_diff.specs.Values.{value_shown}
use Rattle.frame_diff.proofs.Texts.{text_added}
use Rattle.frame_diff.proofs.leaf.show.push_text.Goals as goal

pub returns : goal.returns
returns g c =
    on_ok_weaker c.finish.result (text_added (value_shown (g.D.Depth.nest c.args.cx.now) c.args.cx.now c.args.value)
    c.in_ok-page.page c.show_value.new.page c.args.out.now.items c.finish.new.out.items c.in_ok-page.ensures
    c.in_ok-show_value.ensures) c.finish.ensures
