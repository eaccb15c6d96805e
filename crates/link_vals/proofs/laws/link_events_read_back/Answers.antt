use Rattle.link_vals.proofs.Numbers.{link_event_again}
use Rattle.link_vals.proofs.laws.link_events_read_back.Goals as goal

pub returns : goal.returns
returns c = link_event_again
