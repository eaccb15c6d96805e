use Rattle.std.proofs.Common.{◌≡◌}
use Rattle.nla_wire.specs.Items.{items}
use Rattle.link_info.specs.Tables.{frames_in}
use Rattle.frame_diff.specs.Keys.{function_in}
use Rattle.frame_diff.proofs.keys.function_number.Given as goal

abbrev pub invariant-loop-item : goal.invariant-loop-item
invariant-loop-item l = record {
  left : items l.rest ≡ l.item-iterator;
  same : function_in l.entry.around.now l.entry.list (frames_in l.item-iterator)
      ≡ function_in l.entry.around.now l.entry.list (frames_in (items l.entry.bytes.now));
}
