use Rattle.std.proofs.Common.{ap, ◌∙◌}
use Rattle.std.proofs.lemmas.Result.{on_ok_weaker}
use Rattle.shown.specs.Drafts.{with_members}
use Rattle.shown.proofs.Drafts.{object_ended}
use Rattle.frame_shown.specs.Values.{fields_in, fields_shown}
use Rattle.frame_shown.proofs.value.fields.show_parts_of.Goals as goal

pub returns : goal.returns
returns c =
    let members = fields_shown c.args.cx.now (fields_in c.args.kind) c.args.bytes.now in
    on_ok_weaker c.end.result (λ ends. object_ended c.args.name.now members c.args.page.now _ _
    (c.in_ok-show_fields.ensures
    ∙ ap (λ fields. with_members (fields_shown c.args.cx.now fields c.args.bytes.now) c.keyed_begin.new.self)
    c.parts_of.ensures.fields
    ∙ ap (with_members members) c.in_ok-keyed_begin.ensures) ends) c.end.ensures
