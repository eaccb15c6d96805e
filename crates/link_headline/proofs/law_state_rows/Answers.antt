use Rattle.link_headline.proofs.StateTied.{same_rows}
use Rattle.link_headline.proofs.law_state_rows.Goals as goal

pub returns : goal.returns
returns c = record { rows = same_rows }
