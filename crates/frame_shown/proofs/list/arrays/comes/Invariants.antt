use Rattle.std.proofs.Common.{◌≡◌, ◌==◌}
use Rattle.std.specs.List.{list_any}
use Rattle.nla_wire.specs.Frames.{number}
use Rattle.nla_wire.specs.Items.{items}
use Rattle.link_info.specs.Tables.{frames_in}
use Rattle.frame_shown.proofs.list.arrays.comes.Given as goal

abbrev pub invariant-loop-item : goal.invariant-loop-item
invariant-loop-item l = list_any (λ f. number f == l.number) (frames_in l.item-iterator)
    ≡ list_any (λ f. number f == l.number) (frames_in (items l.bytes))
