use Rattle.link_vals.proofs.States.{named_states_read, other_states_refused}
use Rattle.link_vals.proofs.laws.state_texts_read_back.Goals as goal

pub returns-clause-named : goal.returns-clause-named
returns-clause-named c = named_states_read

pub returns-clause-others : goal.returns-clause-others
returns-clause-others c = other_states_refused
