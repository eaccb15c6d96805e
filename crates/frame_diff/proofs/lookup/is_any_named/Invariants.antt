use Rattle.std.proofs.Common.{◌≡◌}
use Rattle.std.specs.List.{list_any}
use Rattle.nla_wire.specs.Items.{items}
use Rattle.link_info.specs.Tables.{frames_in}
use Rattle.frame_diff.specs.Beside.{is_named}
use Rattle.frame_diff.proofs.lookup.is_any_named.Given as goal

abbrev pub invariant-loop-item : goal.invariant-loop-item
invariant-loop-item l = list_any (is_named l.cx l.list l.name) (frames_in l.item-iterator)
    ≡ list_any (is_named l.cx l.list l.name) (frames_in (items l.bytes))
