use Rattle.std.proofs.Common.{sym, ◌∙◌}
use Rattle.std.proofs.lemmas.Result.{on_ok_weaker}
use Rattle.frame_diff.proofs.Alike.{first_again, first_same, first_turned}
use Rattle.frame_diff.proofs.rows.tell_pair.Goals as goal

pub returns-then-is_same : goal.returns-then-is_same
returns-then-is_same c =
    first_same c.args.cx.now c.args.theirs.now c.args.path.now c.args.own c.args.behind.now c.args.there.now
    c.args.other c.args.page.now c.requires.first c.requires.same
    (sym c.in_ok-is_same.ensures ∙ c.if-is_same.true)

pub returns-then-comes : goal.returns-then-comes
returns-then-comes c =
    first_again c.args.cx.now c.args.theirs.now c.args.path.now c.args.own c.args.behind.now c.args.there.now
    c.args.other c.args.page.now c.requires.first c.requires.same
    (sym (c.comes.ensures c.args.cx.now) ∙ c.if-comes.true)

pub returns : goal.returns
returns c =
    on_ok_weaker c.put_step.result (first_turned c.args.cx.now c.args.theirs.now c.args.path.now c.args.own
    c.args.behind.now c.args.there.now c.args.other c.args.page.now c.put_step.new.page c.requires.first
    c.requires.same (sym c.in_ok-is_same.ensures ∙ c.if-is_same.false)
    (sym (c.comes.ensures c.args.cx.now) ∙ c.if-comes.false)) c.put_step.ensures
