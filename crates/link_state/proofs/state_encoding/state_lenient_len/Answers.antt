use Rattle.link_state.proofs.LenientStates.{state_length}
use Rattle.link_state.proofs.state_encoding.state_lenient_len.Goals as goal

pub returns : goal.returns
returns c = state_length c.args.input.now c.canonical_lenient_len.result c.canonical_lenient_len.ensures
