use Rattle.std.proofs.Common.{ap, ◌∙◌}
use Rattle.std.proofs.lemmas.Result.{on_ok_weaker}
use Rattle.shown.specs.Drafts.{with_members}
use Rattle.shown.proofs.Drafts.{object_ended}
use Rattle.frame_shown.specs.Values.{record_shown}
use Rattle.frame_shown.proofs.value.style.show_record.Goals as goal

pub returns : goal.returns
returns c =
    let members = record_shown c.args.parts.now c.args.bytes.now in
    on_ok_weaker c.end.result (λ ends. object_ended c.args.name.now members c.args.page.now _ _
    (c.in_ok-show_parts.ensures ∙ ap (with_members members) c.in_ok-begin.ensures) ends) c.end.ensures
