use Rattle.std.proofs.Common.{◌≡◌, ◌++◌, map}
use Rattle.link_info.specs.Tables.{frames_in}
use Rattle.frame_diff.specs.Groups.{group_at, picked_values}
use Rattle.frame_diff.specs.Members.{value_in}
use Rattle.frame_diff.specs.Values.{value_shown}
use Rattle.frame_diff.specs.Walked.{Holding, Showing, reading_at}
use Rattle.frame_diff.proofs.plain_lists.each_of.Given as goal

abbrev pub invariant-loop-item : goal.invariant-loop-item
invariant-loop-item l = (nest : Showing) (inner : Holding)
    → let cx = l.list.around.now in
    map (value_shown (nest cx) cx) l.values.items
    ++ map value_in (picked_values (reading_at nest inner l.is_state cx) l.list.number l.list.list
    (frames_in l.item-iterator))
    ≡ map value_in (group_at nest inner l.is_state l.list)
