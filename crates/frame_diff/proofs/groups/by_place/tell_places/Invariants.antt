use Rattle.std.proofs.Common.{◌≡◌, ◌≤◌, ◌+◌}
use Rattle.nla_wire.specs.Items.{frame_count, items}
use Rattle.link_info.specs.Tables.{frames_in}
use Rattle.shown.specs.Drafts.{with_members}
use Rattle.frame_shown.specs.Items.{objects}
use Rattle.frame_diff.specs.Forests.{forest}
use Rattle.frame_diff.specs.Groups.{group_at, picked_values, is_entries}
use Rattle.frame_diff.specs.Items.{items_told}
use Rattle.frame_diff.specs.Members.{placed, places}
use Rattle.frame_diff.specs.Walked.{reading_at}
use Rattle.frame_diff.proofs.groups.by_place.tell_places.Given as goal

abbrev pub invariant-loop-item : goal.invariant-loop-item
invariant-loop-item g l =
    let nest = g.W.Depth.nest in
    let inner = g.W.Walk.inner in
    let r = reading_at nest inner l.pass.is_state l.own.around.now in
    record {
      same : is_entries l.rest.list ≡ is_entries l.own.list;
      around : l.rest.around.now ≡ l.others.around.now;
      few : l.place + frame_count l.item-iterator ≤ frame_count (items l.own.bytes.now);
      told : with_members (objects (items_told l.pass.side l.path
          (forest (placed l.place (picked_values r l.own.number l.own.list (frames_in l.item-iterator))))
          (forest (placed l.place (group_at nest inner l.pass.is_state l.rest))))) l.page
          ≡ with_members (objects (items_told l.pass.side l.path
          (places (group_at nest inner l.pass.is_state l.own))
          (places (group_at nest inner l.pass.is_state l.others)))) l.fn.page;
    }
