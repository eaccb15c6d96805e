use Rattle.std.proofs.Common.{◌≡◌}
use Rattle.nla_wire.specs.Items.{items}
use Rattle.link_info.specs.Tables.{frames_in}
use Rattle.shown.specs.Drafts.{with_members}
use Rattle.frame_shown.specs.Items.{objects}
use Rattle.frame_shown.specs.Frames.{entries_in}
use Rattle.frame_shown.proofs.list.show_entries.Given as goal

abbrev pub invariant-loop-item : goal.invariant-loop-item
invariant-loop-item g l = with_members (objects (entries_in (g.D.Depth.nest l.cx) l.cx l.list (frames_in
    l.item-iterator))) l.page
    ≡ with_members (objects (entries_in (g.D.Depth.nest l.cx) l.cx l.list (frames_in (items l.bytes)))) l.fn.page
