use Rattle.std.proofs.Common.{◌≡◌, ◌++◌, filter}
use Rattle.nla_wire.specs.Canon.{canons}
use Rattle.nla_wire.specs.Items.{items}
use Rattle.link_info.specs.Tables.{frames_in}
use Rattle.frame_shown.specs.Tables.{entry_list}
use Rattle.frame_diff.specs.Settled.{stands_still}
use Rattle.frame_diff.proofs.wholes.still_ones.Given as goal

abbrev pub invariant-loop-item : goal.invariant-loop-item
invariant-loop-item l =
    l.out.items ++ canons (λ f. f) (filter (stands_still (entry_list l.group)) (frames_in l.item-iterator))
    ≡ canons (λ f. f) (filter (stands_still (entry_list l.group)) (frames_in (items l.entry)))
