use Rattle.std.proofs.Common.{◌≡◌}
use Rattle.nla_wire.specs.Items.{items}
use Rattle.link_info.specs.Tables.{frames_in}
use Rattle.shown.specs.Drafts.{with_members}
use Rattle.frame_shown.specs.Frames.{values_by}
use Rattle.frame_shown.specs.Items.{elements}
use Rattle.frame_shown.proofs.list.arrays.show_values.Given as goal

abbrev pub invariant-loop-item : goal.invariant-loop-item
invariant-loop-item g l = with_members (elements (values_by (g.D.Depth.nest l.cx) l.style l.number (frames_in
    l.item-iterator))) l.page
    ≡ with_members (elements (values_by (g.D.Depth.nest l.cx) l.style l.number (frames_in (items l.bytes)))) l.fn.page
