use Rattle.link_state.proofs.Left.{inet6_thinned, families_thinned}
use Rattle.link_state.proofs.Apart.{inet6_apart, families_apart}
use Rattle.link_state.proofs.laws.law_thinned.Goals as goal

pub returns : goal.returns
returns c = record {
  inet6 = inet6_thinned;
  families = families_thinned;
  inet6_apart = inet6_apart;
  families_apart = families_apart;
}
