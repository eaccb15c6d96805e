use Rattle.frame_shown.proofs.ValuesMeant.{values_meant}
use Rattle.frame_shown.proofs.laws.law_values.Goals as goal

pub returns : goal.returns
returns c = values_meant
