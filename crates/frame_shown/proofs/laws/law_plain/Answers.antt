use Rattle.frame_shown.proofs.Plain.{plain_alike}
use Rattle.frame_shown.proofs.laws.law_plain.Goals as goal

pub returns : goal.returns
returns c = plain_alike
