use Rattle.std.proofs.Common.{◌≡◌, ◌≤◌, ◌+◌}
use Rattle.nla_wire.specs.Items.{frame_count, items}
use Rattle.link_info.specs.Tables.{frames_in}
use Rattle.shown.specs.Drafts.{with_members}
use Rattle.frame_shown.specs.Items.{objects}
use Rattle.frame_diff.specs.Forests.{forest}
use Rattle.frame_diff.specs.Items.{items_told}
use Rattle.frame_diff.specs.Members.{earlier, named_in, placed, places}
use Rattle.frame_diff.specs.Repeated.{GoesOnAt, earlier_at}
use Rattle.frame_diff.specs.Walked.{reading_at}
use Rattle.frame_diff.proofs.again.tell_repeated.Given as goal

abbrev pub invariant-loop-item : goal.invariant-loop-item
invariant-loop-item g l =
    let nest = g.W.Depth.nest in
    let inner = g.W.Walk.inner in
    let r = reading_at nest inner l.pass.is_state l.own.around.now in
    let others = places (earlier_at nest inner l.pass.is_state l.others) in
    record {
      behind : items l.rest ≡ l.item-iterator;
      goes : GoesOnAt nest inner l.pass.is_state l.others l.place l.there;
      few : l.place + frame_count l.item-iterator ≤ frame_count (items l.own.bytes.now);
      told : with_members (objects (items_told l.pass.side l.path
          (forest (placed l.place (earlier (named_in r l.own.list (frames_in l.item-iterator))))) others)) l.page
          ≡ with_members (objects (items_told l.pass.side l.path
          (places (earlier_at nest inner l.pass.is_state l.own)) others)) l.fn.page;
    }
