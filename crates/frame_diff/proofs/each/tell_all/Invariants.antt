use Rattle.std.proofs.Common.{◌≡◌, drop, map}
use Rattle.shown.specs.Drafts.{with_members}
use Rattle.frame_shown.specs.Items.{objects}
use Rattle.frame_diff.specs.Each.{one_shown}
use Rattle.frame_diff.specs.Items.{each_items}
use Rattle.frame_diff.proofs.each.tell_all.Given as goal

abbrev pub invariant-loop-value : goal.invariant-loop-value
invariant-loop-value g l =
    let f = one_shown g.D.Depth.nest l.own in
    with_members (objects (each_items l.side l.path (map f (drop l.value-index l.value-items)))) l.page
    ≡ with_members (objects (each_items l.side l.path (map f l.value-items))) l.fn.page
