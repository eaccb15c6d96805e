use Rattle.std.proofs.Common.{◌≡◌, Bool}
use Rattle.nla_wire.specs.Items.{items}
use Rattle.link_info.specs.Tables.{frames_in}
use Rattle.frame_diff.specs.Members.{earlier, named_in}
use Rattle.frame_diff.specs.Repeated.{earlier_at}
use Rattle.frame_diff.specs.Walked.{Holding, Showing, reading_at}
use Rattle.frame_diff.proofs.again.next_again.Given as goal

abbrev pub invariant-loop-item : goal.invariant-loop-item
invariant-loop-item l = record {
  behind : items l.rest ≡ l.item-iterator;
  left : (nest : Showing) (inner : Holding) (is_state : Bool)
      → earlier (named_in (reading_at nest inner is_state l.list.around.now) l.list.list
      (frames_in l.item-iterator))
      ≡ earlier_at nest inner is_state l.list;
}
