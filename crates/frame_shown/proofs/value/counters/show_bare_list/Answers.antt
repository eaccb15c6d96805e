use Rattle.std.proofs.Common.{ap, ◌∙◌}
use Rattle.std.proofs.lemmas.Result.{on_ok_weaker}
use Rattle.shown.specs.Drafts.{with_members}
use Rattle.shown.proofs.Drafts.{list_ended}
use Rattle.frame_shown.specs.Values.{bare_shown}
use Rattle.frame_shown.proofs.value.counters.show_bare_list.Goals as goal

pub returns : goal.returns
returns c =
    let members = bare_shown 39 c.args.bytes.now 0 in
    on_ok_weaker c.end.result (λ ends. list_ended c.args.name.now members c.args.page.now _ _
    (c.in_ok-show_bare.ensures ∙ ap (with_members members) c.in_ok-begin.ensures) ends) c.end.ensures
