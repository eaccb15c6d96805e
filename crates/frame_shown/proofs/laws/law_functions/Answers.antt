use Rattle.frame_shown.proofs.FunctionsMeant.{functions_meant}
use Rattle.frame_shown.proofs.laws.law_functions.Goals as goal

pub returns : goal.returns
returns c = functions_meant
