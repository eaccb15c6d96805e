use Rattle.std.proofs.Common.{◌≡◌}
use Rattle.link_info.specs.Tables.{frames_in}
use Rattle.frame_diff.specs.Groups.{group_at, picked_values}
use Rattle.frame_diff.specs.Members.{are_plain}
use Rattle.frame_diff.specs.Walked.{reading_at}
use Rattle.frame_diff.proofs.plain_lists.are_all_plain.Given as goal

abbrev pub invariant-loop-item : goal.invariant-loop-item
invariant-loop-item g l =
    let nest = g.W.Depth.nest in
    let inner = g.W.Walk.inner in
    are_plain (picked_values (reading_at nest inner l.is_state l.list.around.now) l.list.number
    l.list.list
    (frames_in l.item-iterator))
    ≡ are_plain (group_at nest inner l.is_state l.list)
