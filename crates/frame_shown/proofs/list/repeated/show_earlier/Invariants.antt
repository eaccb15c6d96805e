use Rattle.std.proofs.Common.{◌≡◌, ℕ, ◌<◌, length}
use Rattle.std.specs.Prelude.{slice_index}
use Rattle.nla_wire.specs.Items.{items}
use Rattle.shown.specs.Drafts.{with_members}
use Rattle.frame_shown.specs.Items.{count_of, earlier_ones, objects}
use Rattle.frame_shown.specs.Frames.{items_in}
use Rattle.frame_shown.proofs.list.repeated.show_earlier.Given as goal

abbrev pub invariant-loop-item : goal.invariant-loop-item
invariant-loop-item g l = record {
  size : length l.left ≡ 256;
  told : (n : ℕ) → n < 256
      → slice_index l.left n ≡ count_of n (items_in (g.D.Depth.nest l.cx) l.cx l.list l.item-iterator);
  shown : with_members (objects (earlier_ones (items_in (g.D.Depth.nest l.cx) l.cx l.list l.item-iterator))) l.page
      ≡ with_members (objects (earlier_ones (items_in (g.D.Depth.nest l.cx) l.cx l.list (items l.bytes)))) l.fn.page;
}
