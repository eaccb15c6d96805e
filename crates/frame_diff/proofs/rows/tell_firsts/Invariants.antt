use Rattle.std.proofs.Common.{◌≡◌, drop, true}
use Rattle.shown.specs.Drafts.{with_members}
use Rattle.frame_shown.specs.Items.{objects}
use Rattle.frame_diff.specs.Rows.{have_same_names, rows_beside}
use Rattle.frame_diff.proofs.rows.tell_firsts.Given as goal

abbrev pub invariant-loop-row : goal.invariant-loop-row
invariant-loop-row l = record {
  left : l.behind ≡ drop l.row-index l.own;
  same : have_same_names (drop l.row-index l.own) l.there ≡ true;
  told : with_members (objects (rows_beside l.cx l.theirs l.path (drop l.row-index l.own) l.there)) l.page
      ≡ with_members (objects (rows_beside l.cx l.theirs l.path l.own l.others)) l.fn.page;
}
