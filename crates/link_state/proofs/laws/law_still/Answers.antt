use Rattle.link_state.proofs.States.{state_means_still}
use Rattle.link_state.proofs.Still.{counters_leave, moving_leaves}
use Rattle.link_state.proofs.laws.law_still.Goals as goal

pub returns : goal.returns
returns c = record {
  means = state_means_still;
  counters = counters_leave;
  inside = moving_leaves;
}
