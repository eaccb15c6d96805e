use Rattle.frame_diff.proofs.PathTextsTold.{path_texts_apart}
use Rattle.frame_diff.proofs.laws.law_texts.Goals as goal

pub returns : goal.returns
returns c = path_texts_apart
