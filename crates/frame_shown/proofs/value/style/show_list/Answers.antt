use Rattle.std.proofs.Common.{ap, ◌∙◌}
use Rattle.std.proofs.lemmas.Result.{on_ok_weaker}
use Rattle.shown.specs.Drafts.{with_members}
use Rattle.shown.proofs.Drafts.{list_ended}
use Rattle.nla_wire.specs.Items.{items}
use Rattle.frame_shown.specs.Values.{payloads_shown}
use Rattle.frame_shown.proofs.value.style.show_list.Goals as goal

pub returns : goal.returns
returns c =
    let members = payloads_shown c.args.plain (items c.args.bytes.now) in
    on_ok_weaker c.end.result (λ ends. list_ended c.args.name.now members c.args.page.now _ _
    (c.in_ok-show_payloads.ensures ∙ ap (with_members members) c.in_ok-begin.ensures) ends) c.end.ensures
