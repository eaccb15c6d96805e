use Rattle.std.proofs.Common.{◌≡◌}
use Rattle.nla_wire.specs.Items.{items}
use Rattle.nla_wire.proofs.Checked.{few_start}
use Rattle.nla_wire.proofs.Selected.{selected_start}
use Rattle.nla_wire.proofs.members.parse_each.Goals as goal

pub loop-item-init : goal.loop-item-init
loop-item-init g c =
    let left : c.into_iter-item-iterator.result ≡ items c.args.bytes.now = cc in
    record {
      so_far = selected_start (g.P.Place.grammar c.args.place.now) (g.P.Place.picks c.args.place.now) c.args.bytes.now
          c.into_iter-item-iterator.result left c.in_ok-values.values.items c.in_ok-values.ensures.items;
      few = few_start c.args.bytes.now c.into_iter-item-iterator.result left c.in_ok-values.values.items
          c.in_ok-values.ensures.items;
    }
