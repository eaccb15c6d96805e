use Rattle.std.proofs.Common.{◌≡◌, drop}
use Rattle.nla_wire.specs.Items.{items}
use Rattle.shown.specs.Drafts.{with_members}
use Rattle.frame_shown.specs.Frames.{items_in}
use Rattle.frame_shown.specs.Items.{arrays}
use Rattle.frame_shown.specs.Tables.{lists_of}
use Rattle.frame_shown.proofs.list.arrays.show_arrays.Given as goal

abbrev pub invariant-loop-row : goal.invariant-loop-row
invariant-loop-row g l = with_members (arrays (lists_of (drop l.row-index l.rows))
    (items_in (g.D.Depth.nest l.cx) l.cx l.list (items l.bytes))) l.page
    ≡ with_members (arrays (lists_of l.rows) (items_in (g.D.Depth.nest l.cx) l.cx l.list (items l.bytes))) l.fn.page
