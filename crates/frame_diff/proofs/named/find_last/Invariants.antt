use Rattle.std.proofs.Common.{◌≡◌, None}
use Rattle.nla_wire.specs.Items.{items}
use Rattle.link_info.specs.Tables.{frames_in}
use Rattle.frame_diff.specs.Beside.{last_named}
use Rattle.frame_diff.proofs.named.find_last.Given as goal

abbrev pub invariant-loop-item : goal.invariant-loop-item
invariant-loop-item l = last_named l.cx l.list l.name l.last (frames_in l.item-iterator)
    ≡ last_named l.cx l.list l.name None (frames_in (items l.bytes))
