use Rattle.link_msg.specs.Told.{told_all}
use Rattle.message_shown.proofs.Leniently.{one_told, telling_ends}
use Rattle.message_shown.proofs.lenient.show_refusals.Goals as goal

pub loop-refusal-preserved : goal.loop-refusal-preserved
loop-refusal-preserved c =
    one_told (told_all c.args.bytes.now) c.loop-refusal.refusal-iterator c.next.new.self c.in-Some.refusal
    c.args.page.now c.loop-refusal.page c.show_refusal.new.page c.in-Some.ensures.steps c.in_ok-show_refusal.ensures
    c.loop-refusal.invariant

pub returns : goal.returns
returns c =
    telling_ends (told_all c.args.bytes.now) c.loop-refusal.refusal-iterator c.args.page.now c.loop-refusal.page
    c.in-None.ensures.steps.0 c.loop-refusal.invariant
