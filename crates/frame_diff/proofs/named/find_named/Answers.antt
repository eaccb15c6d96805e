use Rattle.std.proofs.Common.{ap, ◌∙◌, sym}
use Rattle.std.specs.Prelude.{option_map}
use Rattle.nla_wire.specs.Items.{items}
use Rattle.link_info.specs.Tables.{frames_in}
use Rattle.frame_diff.specs.Beside.{held_of}
use Rattle.frame_diff.specs.Members.{Reading}
use Rattle.frame_diff.proofs.Beside.{member_is}
use Rattle.frame_diff.proofs.named.find_named.Goals as goal

pub returns : goal.returns
returns c is_state nest inner =
    let r : Reading =
    record { is_state = is_state; nest = nest; inner = inner; around = c.args.cx.now } in
    member_is c.args.cx.now c.args.list c.args.name.now is_state nest inner (frames_in (items c.args.bytes.now))
    ∙ ap (option_map (held_of r c.args.list)) (sym c.find_last.ensures)
