use Rattle.std.proofs.Common.{◌∙◌, drop, slice_index}
use Rattle.std.proofs.lemmas.Result.{on_ok_weaker}
use Rattle.shown.specs.Drafts.{with_members}
use Rattle.frame_shown.specs.Messages.{attribute_members, header_members}
use Rattle.frame_shown.proofs.Items.{both_added}
use Rattle.frame_shown.proofs.message.show_message.Goals as goal

pub returns : goal.returns
returns c =
    let bytes = c.args.bytes.now in
    on_ok_weaker c.show_attributes.result (λ is. both_added (header_members bytes)
    (attribute_members c.args.cx.now (slice_index bytes 0) (drop 16 bytes)) c.args.page.now _ _
    c.in_ok-show_header.ensures
    (is ∙ (λ k. with_members (attribute_members c.args.cx.now (c.u8_at.ensures k) (c.rest_of.ensures k))
    c.show_header.new.page))) c.show_attributes.ensures
