use Rattle.frame_shown.proofs.MessagesMeant.{messages_meant}
use Rattle.frame_shown.proofs.laws.law_meaning.Goals as goal

pub returns : goal.returns
returns c = messages_meant
