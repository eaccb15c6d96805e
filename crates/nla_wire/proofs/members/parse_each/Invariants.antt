use Rattle.std.proofs.Common.{◌≡◌, ◌+◌, ◌*◌, ◌≤◌, length}
use Rattle.nla_wire.specs.Reading.{with_front}
use Rattle.nla_wire.specs.Items.{read_items, frame_count}
use Rattle.nla_wire.specs.Grammar.{members}
use Rattle.nla_wire.proofs.Selected.{selected}
use Rattle.nla_wire.proofs.members.parse_each.Given as goal

abbrev pub invariant-loop-item : goal.invariant-loop-item
invariant-loop-item g l = record {
  so_far : with_front l.values.items
      (read_items (g.P.Place.grammar l.place).reads (selected (g.P.Place.picks l.place) l.item-iterator))
      ≡ (members (g.P.Place.picks l.place) (g.P.Place.grammar l.place)).reads l.bytes;
  few : 4 * (length l.values.items + frame_count l.item-iterator) ≤ length l.bytes;
}
