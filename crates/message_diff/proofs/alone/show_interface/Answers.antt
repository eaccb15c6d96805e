use Rattle.std.proofs.Common.{ap, ◌∙◌}
use Rattle.std.proofs.lemmas.Result.{on_ok_weaker}
use Rattle.shown.specs.Drafts.{Members, with_members}
use Rattle.message_diff.proofs.LastNames.{head_none, head_read}
use Rattle.message_diff.proofs.alone.show_interface.Goals as goal

pub returns-in_ok-name-in-Some : goal.returns-in_ok-name-in-Some
returns-in_ok-name-in-Some c =
    let head = head_read c.args.text.now c.in-Some.attributes.now c.in-Some.family c.in_ok-name-in-Some.name
    c.in-Some.ensures c.in_ok-name-in-Some.ensures in
    on_ok_weaker c.show_head.result (λ is. is ∙ ap (λ (ms : Members). with_members ms c.args.page.now) head)
    c.show_head.ensures

pub returns-in-None : goal.returns-in-None
returns-in-None c = ap (λ (ms : Members). with_members ms c.args.page.now) (head_none c.args.text.now c.in-None.ensures)
