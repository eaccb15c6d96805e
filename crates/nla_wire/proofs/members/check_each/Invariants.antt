use Rattle.std.proofs.Common.{◌≡◌}
use Rattle.nla_wire.specs.Items.{read_items}
use Rattle.nla_wire.specs.Grammar.{members}
use Rattle.nla_wire.proofs.Checked.{fault_of}
use Rattle.nla_wire.proofs.Selected.{selected}
use Rattle.nla_wire.proofs.members.check_each.Given as goal

abbrev pub invariant-loop-item : goal.invariant-loop-item
invariant-loop-item g l =
    fault_of (read_items (g.P.Place.grammar l.place).reads (selected (g.P.Place.picks l.place) l.item-iterator))
    ≡ fault_of ((members (g.P.Place.picks l.place) (g.P.Place.grammar l.place)).reads l.bytes)
