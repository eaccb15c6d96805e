use Rattle.std.proofs.Common.{◌∙◌}
use Rattle.nla_wire.specs.Items.{items}
use Rattle.link_info.specs.Tables.{frames_in}
use Rattle.frame_diff.specs.Walked.{reading_at}
use Rattle.frame_diff.proofs.Walked.{comes_named}
use Rattle.frame_diff.proofs.lookup.comes.Goals as goal

pub returns : goal.returns
returns c nest inner is_state =
    let list = c.args.list in
    c.is_any_named.ensures
    ∙ comes_named (reading_at nest inner is_state list.around.now) list.list c.args.name.now
    (frames_in (items list.bytes.now))
