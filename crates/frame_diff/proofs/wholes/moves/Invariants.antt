use Rattle.std.proofs.Common.{◌≡◌, not}
use Rattle.std.specs.List.{list_any}
use Rattle.nla_wire.specs.Items.{items}
use Rattle.link_info.specs.Tables.{frames_in}
use Rattle.frame_shown.specs.Tables.{entry_list}
use Rattle.frame_diff.specs.Settled.{stands_still}
use Rattle.frame_diff.proofs.wholes.moves.Given as goal

abbrev pub invariant-loop-item : goal.invariant-loop-item
invariant-loop-item l =
    list_any (λ f. not (stands_still (entry_list l.group) f)) (frames_in l.item-iterator)
    ≡ list_any (λ f. not (stands_still (entry_list l.group) f)) (frames_in (items l.entry))
