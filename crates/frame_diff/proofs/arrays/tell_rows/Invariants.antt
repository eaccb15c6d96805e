use Rattle.std.proofs.Common.{◌≡◌, drop}
use Rattle.nla_wire.specs.Items.{items}
use Rattle.link_info.specs.Tables.{frames_in}
use Rattle.shown.specs.Drafts.{with_members}
use Rattle.frame_shown.specs.Items.{objects}
use Rattle.frame_shown.specs.Tables.{lists_of}
use Rattle.frame_diff.specs.Arrays.{arrays_at}
use Rattle.frame_diff.specs.Forests.{forest}
use Rattle.frame_diff.specs.Items.{items_told}
use Rattle.frame_diff.specs.Members.{arrays_of}
use Rattle.frame_diff.specs.Shown.{AreListsApart}
use Rattle.frame_diff.specs.Walked.{reading_at}
use Rattle.frame_diff.proofs.arrays.tell_rows.Given as goal

abbrev pub invariant-loop-row : goal.invariant-loop-row
invariant-loop-row g l =
    let nest = g.W.Depth.nest in
    let inner = g.W.Walk.inner in
    let r = reading_at nest inner l.pass.is_state l.own.around.now in
    let fs = frames_in (items l.own.bytes.now) in
    let others = forest (arrays_at nest inner l.pass.is_state l.others) in
    record {
      apart : AreListsApart (lists_of (drop l.row-index l.rows));
      told : with_members (objects (items_told l.pass.side l.path
          (forest (arrays_of r l.own.list (lists_of (drop l.row-index l.rows)) fs)) others)) l.page
          ≡ with_members (objects (items_told l.pass.side l.path
          (forest (arrays_of r l.own.list (lists_of l.rows) fs)) others)) l.fn.page;
    }
