use Rattle.std.proofs.Common.{[], refl}
use Rattle.std.proofs.lemmas.Result.{on_ok_weaker}
use Rattle.std.specs.Prelude.{slice_index}
use Rattle.nla_wire.specs.Items.{items}
use Rattle.link_info.specs.Tables.{frames_in}
use Rattle.frame_shown.specs.Messages.{address_len}
use Rattle.frame_shown.specs.declared.form.List.TheVariants as Shapes
use Rattle.frame_diff.specs.Forests.{forest}
use Rattle.frame_diff.specs.Items.{items_told}
use Rattle.frame_diff.specs.Members.{attributes_in, members_in, reading}
use Rattle.frame_diff.proofs.Inside.{same_written}
use Rattle.frame_diff.proofs.Told.{alike_lists, all_names, attributes_are}
use Rattle.frame_diff.proofs.message.tell_attributes.Goals as goal

pub tell_members-requires-clause-rows : goal.tell_members-requires-clause-rows
tell_members-requires-clause-rows c h =
    alike_lists c.args.cx.now c.args.theirs.now c.around-here.result c.around-there.result
    (address_len (frames_in (items c.args.own.attributes.now)))
    (address_len (frames_in (items c.args.others.attributes.now))) c.around-here.ensures c.around-there.ensures
    c.u8_at-family.result c.u8_at-their_family.result c.args.pass.is_alike c.are_alike-is_alike.result
    c.requires.rows c.requires.alike c.are_alike-is_alike.ensures h

pub tell_members-requires-clause-names : goal.tell_members-requires-clause-names
tell_members-requires-clause-names c =
    all_names c.args.cx.now c.around-here.result (address_len (frames_in (items c.args.own.attributes.now)))
    c.around-here.ensures c.requires.rows

pub returns : goal.returns
returns c =
    let is_state = c.args.pass.is_state in
    let side = c.args.pass.side in
    let own = members_in (reading 5 is_state c.around-here.result) (Shapes.Message c.u8_at-family.result)
    (frames_in (items c.args.own.attributes.now)) in
    let others = members_in (reading 5 is_state c.around-there.result) (Shapes.Message c.u8_at-their_family.result)
    (frames_in (items c.args.others.attributes.now)) in
    let own_too = attributes_in is_state c.args.cx.now (slice_index c.args.own.header.now 0)
    c.args.own.attributes.now in
    let others_too = attributes_in is_state c.args.theirs.now (slice_index c.args.others.header.now 0)
    c.args.others.attributes.now in
    on_ok_weaker c.tell_members.result (same_written (items_told side [] (forest own) (forest others))
    (items_told side [] (forest own_too) (forest others_too)) c.args.page.now c.tell_members.new.page
    (λ k. items_told side []
    (forest (attributes_are is_state c.args.cx.now c.around-here.result c.u8_at-family.result
    (slice_index c.args.own.header.now 0) c.args.own.attributes.now c.args.own.attributes.now c.around-here.ensures
    c.u8_at-family.ensures refl k))
    (forest (attributes_are is_state c.args.theirs.now c.around-there.result c.u8_at-their_family.result
    (slice_index c.args.others.header.now 0) c.args.others.attributes.now c.args.others.attributes.now
    c.around-there.ensures c.u8_at-their_family.ensures refl k))))
    c.tell_members.ensures
