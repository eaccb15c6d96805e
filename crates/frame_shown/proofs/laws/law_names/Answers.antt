use Rattle.frame_shown.proofs.NamesApart.{names_apart}
use Rattle.frame_shown.proofs.laws.law_names.Goals as goal

pub returns : goal.returns
returns c = names_apart
