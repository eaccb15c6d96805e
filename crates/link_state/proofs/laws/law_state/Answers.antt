use Rattle.link_state.proofs.States.{state_is_canonical, state_is_as_long}
use Rattle.link_state.proofs.StateLaws.{state_twice}
use Rattle.link_state.proofs.laws.law_state.Goals as goal

pub returns : goal.returns
returns c = record {
  canonical = state_is_canonical;
  as_long = state_is_as_long;
  twice = state_twice;
}
