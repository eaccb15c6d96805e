use Rattle.std.proofs.Common.{◌≡◌, ◌++◌, ℕ, map}
use Rattle.std.specs.Global.{Vec}
use Rattle.nla_wire.specs.Items.{items}
use Rattle.link_info.specs.Tables.{frames_in}
use Rattle.frame_diff.specs.Settled.{settled_in}
use Rattle.frame_diff.proofs.wholes.settled_entries.Given as goal

abbrev pub invariant-loop-item : goal.invariant-loop-item
invariant-loop-item l =
    map (λ (p : Vec ℕ). p.items) l.entries.items ++ settled_in l.is_state l.group (frames_in l.item-iterator)
    ≡ settled_in l.is_state l.group (frames_in (items l.bytes))
