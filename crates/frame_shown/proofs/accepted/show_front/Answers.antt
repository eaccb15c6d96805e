use Rattle.std.proofs.Common.{false, ap, ◌∙◌}
use Rattle.std.proofs.lemmas.Result.{on_ok_weaker}
use Rattle.shown.specs.Drafts.{with_members}
use Rattle.shown.proofs.Drafts.{object_ended}
use Rattle.frame_shown.specs.Accepted.{accepted}
use Rattle.frame_shown.specs.Messages.{attribute_members}
use Rattle.frame_shown.proofs.accepted.show_front.Goals as goal

pub returns : goal.returns
returns c =
    let cx = c.args.cx.now in
    let family = c.args.family in
    let members = attribute_members cx family (accepted false family c.args.bytes.now) in
    on_ok_weaker c.end.result (λ ends. object_ended _ members c.args.page.now _ _
    (c.in_ok-show_attributes.ensures
    ∙ ap (λ list. with_members (attribute_members cx family list) c.keyed_begin.new.self)
    (c.as_slice.ensures.value ∙ c.in_ok-list.ensures)
    ∙ ap (with_members members) c.in_ok-keyed_begin.ensures) ends)
    c.end.ensures
