use Rattle.std.proofs.Common.{◌≡◌, length}
use Rattle.std.specs.Prelude.{◌||◌}
use Rattle.std.specs.List.{list_any}
use Rattle.nla_wire.specs.Items.{items}
use Rattle.frame_shown.specs.Items.{are_any, earlier_ones, is_value, kept_ones}
use Rattle.frame_shown.specs.Frames.{items_in}
use Rattle.frame_shown.proofs.Items.{repeats}
use Rattle.frame_shown.proofs.list.repeated.look_over.Given as goal

abbrev pub invariant-loop-item : goal.invariant-loop-item
invariant-loop-item g l = record {
  size : length l.seen ≡ 256;
  repeated : (repeats l.seen (items_in (g.D.Depth.nest l.cx) l.cx l.list l.item-iterator) || l.is_any_repeated)
      ≡ are_any (earlier_ones (items_in (g.D.Depth.nest l.cx) l.cx l.list (items l.bytes)));
  kept : (are_any (kept_ones (items_in (g.D.Depth.nest l.cx) l.cx l.list l.item-iterator)) || l.is_any_kept)
      ≡ are_any (kept_ones (items_in (g.D.Depth.nest l.cx) l.cx l.list (items l.bytes)));
  value : (list_any is_value (items_in (g.D.Depth.nest l.cx) l.cx l.list l.item-iterator) || l.is_any_value)
      ≡ list_any is_value (items_in (g.D.Depth.nest l.cx) l.cx l.list (items l.bytes));
}
