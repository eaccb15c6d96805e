use Rattle.std.proofs.Common.{◌≡◌}
use Rattle.nla_wire.specs.Items.{items}
use Rattle.shown.specs.Drafts.{with_members}
use Rattle.frame_shown.specs.Items.{objects, kept_ones}
use Rattle.frame_shown.specs.Frames.{items_in}
use Rattle.frame_shown.proofs.list.left.show_kept_frames.Given as goal

abbrev pub invariant-loop-item : goal.invariant-loop-item
invariant-loop-item g l = with_members (objects (kept_ones (items_in (g.D.Depth.nest l.cx) l.cx l.list
    l.item-iterator))) l.page
    ≡ with_members (objects (kept_ones (items_in (g.D.Depth.nest l.cx) l.cx l.list (items l.bytes)))) l.fn.page
