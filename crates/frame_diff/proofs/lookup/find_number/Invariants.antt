use Rattle.std.proofs.Common.{◌≡◌, ◌++◌, List, false}
use Rattle.std.specs.Prelude.{◌==◌}
use Rattle.std.specs.List.{list_any}
use Rattle.nla_wire.specs.Frames.{Frame, number}
use Rattle.nla_wire.specs.Items.{items}
use Rattle.link_info.specs.Tables.{frames_in}
use Rattle.frame_diff.proofs.lookup.find_number.Given as goal

abbrev pub invariant-loop-item : goal.invariant-loop-item
invariant-loop-item l = record {
  left : items l.rest ≡ l.item-iterator;
  passed : (fs : List Frame) × (frames_in (items l.all) ≡ fs ++ frames_in l.item-iterator)
      × (list_any (λ f. number f == l.number) fs ≡ false);
}
