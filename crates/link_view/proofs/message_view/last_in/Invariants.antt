use Rattle.std.proofs.Common.{◌≡◌, None}
use Rattle.nla_wire.specs.Items.{items}
use Rattle.link_view.specs.Views.{latest, HasNumber}
use Rattle.link_view.proofs.message_view.last_in.Given as goal

-- what is found in the frames that are left is what is found in all
abbrev pub invariant-loop-item : goal.invariant-loop-item
invariant-loop-item l =
    (latest l.number l.found l.item-iterator ≡ latest l.number None (items l.list)) × HasNumber l.number l.found
