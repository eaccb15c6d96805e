use Rattle.std.proofs.Common.{◌≡◌, drop, map}
use Rattle.shown.specs.Drafts.{with_members}
use Rattle.frame_shown.specs.Items.{objects}
use Rattle.frame_diff.specs.Items.{items_told}
use Rattle.frame_diff.specs.Members.{fields}
use Rattle.frame_diff.specs.Rows.{row_shown}
use Rattle.frame_diff.proofs.rows.tell_each.Given as goal

abbrev pub invariant-loop-row : goal.invariant-loop-row
invariant-loop-row l =
    let others = fields (map (row_shown l.theirs) l.others) in
    record {
      left : l.behind ≡ drop l.row-index l.own;
      told : with_members (objects (items_told l.side l.path
          (fields (map (row_shown l.cx) (drop l.row-index l.own))) others)) l.page
          ≡ with_members (objects (items_told l.side l.path (fields (map (row_shown l.cx) l.own)) others)) l.fn.page;
    }
