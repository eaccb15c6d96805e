use Rattle.message_diff.proofs.LastNames.{head_meant}
use Rattle.message_diff.proofs.laws.law_heads.Goals as goal

pub returns : goal.returns
returns c = head_meant
