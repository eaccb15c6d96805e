use Rattle.std.proofs.Common.{◌≡◌}
use Rattle.std.specs.Prelude.{unwrap_or}
use Rattle.link_nest.specs.declared.numbers.TheConstants.{IFLA_INFO_KIND}
use Rattle.link_state.specs.declared.numbers.TheConstants.{IFLA_INFO_SLAVE_KIND}
use Rattle.link_state.specs.Kinds.{first_kind, kind_at}
use Rattle.link_state.proofs.kind.kinds.Given as goal

abbrev pub invariant-loop-item : goal.invariant-loop-item
invariant-loop-item l = record {
  device : kind_at IFLA_INFO_KIND l.list ≡ unwrap_or l.kind (first_kind IFLA_INFO_KIND l.item-iterator);
  port : kind_at IFLA_INFO_SLAVE_KIND l.list ≡ unwrap_or l.slave_kind (first_kind IFLA_INFO_SLAVE_KIND l.item-iterator);
}
