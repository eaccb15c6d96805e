use Rattle.std.proofs.Common.{◌≡◌, sym, ap}
use Rattle.nla_wire.specs.Items.{items}
use Rattle.link_nest.specs.declared.numbers.TheConstants.{IFLA_INFO_KIND}
use Rattle.link_state.specs.declared.numbers.TheConstants.{IFLA_INFO_SLAVE_KIND}
use Rattle.link_state.specs.Kinds.{first_kind, kind_at}
use Rattle.link_state.proofs.kind.kinds.Goals as goal

pub loop-item-init : goal.loop-item-init
unfolding kind_at
loop-item-init c =
    let left : c.into_iter-item-iterator.result ≡ items c.args.list.now = cc in
    record {
      device = ap (first_kind IFLA_INFO_KIND) (sym left);
      port = ap (first_kind IFLA_INFO_SLAVE_KIND) (sym left);
    }
