use Rattle.std.proofs.Common.{◌≡◌, ap, ◌∙◌}
use Rattle.nla_wire.specs.Items.{items, read_items}
use Rattle.nla_wire.proofs.Checked.{fault_of}
use Rattle.nla_wire.proofs.Selected.{selected, read_selected}
use Rattle.nla_wire.proofs.members.check_each.Goals as goal

pub loop-item-init : goal.loop-item-init
loop-item-init g c =
    let left : c.into_iter-item-iterator.result ≡ items c.args.bytes.now = cc in
    let place = g.P.Place.grammar c.args.place.now in
    ap (λ xs. fault_of (read_items place.reads (selected (g.P.Place.picks c.args.place.now) xs))) left
    ∙ ap fault_of (read_selected place (g.P.Place.picks c.args.place.now) c.args.bytes.now)
