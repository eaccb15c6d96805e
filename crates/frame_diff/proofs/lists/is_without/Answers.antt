use Rattle.std.proofs.Common.{◌∙◌, ap}
use Rattle.std.specs.Prelude.{◌&&◌, not}
use Rattle.nla_wire.specs.Items.{items}
use Rattle.link_info.specs.Tables.{frames_in}
use Rattle.frame_diff.specs.Members.{is_some}
use Rattle.frame_diff.proofs.Classes.{above_without}
use Rattle.frame_diff.proofs.lists.is_without.Goals as goal

pub returns-then-is_object-clause-value : goal.returns-then-is_object-clause-value
returns-then-is_object-clause-value c nest inner is_state =
    let own = c.args.own in
    let some = is_some (frames_in (items own.bytes.now)) in
    above_without nest inner is_state own.around.now own.list own.bytes.now
    ∙ ap (λ b. not b && not some) c.is_object.ensures
    ∙ ap (λ b. not (not b) && not some) c.if-is_object.true
    ∙ ap not c.is_any.ensures
