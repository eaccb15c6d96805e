use Rattle.std.proofs.Common.{true, drop, slice_index, ap, ◌∙◌}
use Rattle.std.proofs.lemmas.Result.{on_ok_weaker}
use Rattle.shown.specs.Drafts.{with_members}
use Rattle.frame_shown.specs.Accepted.{accepted}
use Rattle.frame_shown.specs.Messages.{attribute_members, header_members}
use Rattle.frame_shown.proofs.Items.{both_added}
use Rattle.frame_shown.proofs.accepted.show_leniently.Goals as goal

pub returns : goal.returns
returns c =
    let cx = c.args.cx.now in
    let bytes = c.args.bytes.now in
    let family = slice_index bytes 0 in
    on_ok_weaker c.show_attributes.result (λ is. both_added (header_members bytes)
    (attribute_members cx family (accepted true family (drop 16 bytes))) c.args.page.now _ _ c.in_ok-show_header.ensures
    (is
    ∙ ap (λ list. with_members (attribute_members cx c.u8_at-family.result list) c.show_header.new.page)
    (c.as_slice.ensures.value ∙ c.in_ok-list.ensures)
    ∙ (λ k. with_members (attribute_members cx (c.u8_at-family.ensures k)
    (accepted true (c.u8_at-family.ensures k) (c.rest_of.ensures k))) c.show_header.new.page)))
    c.show_attributes.ensures
