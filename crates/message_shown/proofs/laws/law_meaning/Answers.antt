use Rattle.message_shown.proofs.Meant.{answers_are_meant}
use Rattle.message_shown.proofs.laws.law_meaning.Goals as goal

pub returns : goal.returns
returns c = answers_are_meant
