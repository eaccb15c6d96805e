use Rattle.frame_diff.proofs.Messages.{messages_told}
use Rattle.frame_diff.proofs.laws.law_messages.Goals as goal

pub returns : goal.returns
returns c = messages_told
