use Rattle.std.proofs.Common.{◌≡◌}
use Rattle.std.specs.Prelude.{◌||◌}
use Rattle.std.specs.List.{flat_map, list_any}
use Rattle.nla_wire.specs.Items.{items}
use Rattle.shown.specs.Drafts.{with_members}
use Rattle.frame_shown.specs.Items.{are_any, is_value, kept_ones, shown_as}
use Rattle.frame_shown.specs.Frames.{items_in}
use Rattle.frame_shown.specs.Lists.{left_kept, left_value}
use Rattle.frame_shown.proofs.list.frame.show_named.Given as goal

abbrev pub invariant-loop-item : goal.invariant-loop-item
invariant-loop-item g l = record {
  shown : with_members (flat_map shown_as (items_in (g.D.Depth.nest l.cx) l.cx l.list l.item-iterator)) l.page
      ≡ with_members (flat_map shown_as (items_in (g.D.Depth.nest l.cx) l.cx l.list (items l.bytes))) l.fn.page;
  kept : (are_any (kept_ones (items_in (g.D.Depth.nest l.cx) l.cx l.list l.item-iterator)) || left_kept l.left)
      ≡ are_any (kept_ones (items_in (g.D.Depth.nest l.cx) l.cx l.list (items l.bytes)));
  value : (list_any is_value (items_in (g.D.Depth.nest l.cx) l.cx l.list l.item-iterator) || left_value l.left)
      ≡ list_any is_value (items_in (g.D.Depth.nest l.cx) l.cx l.list (items l.bytes));
}
